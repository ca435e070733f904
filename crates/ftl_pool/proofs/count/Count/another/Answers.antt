use Rattle.std.proofs.Common.{ap, sym, subst, ◌∙◌, ◌<◌}
use Rattle.ftl_pool.specs.Count.{PoolModel, TallyModel}
use Rattle.ftl_pool.proofs.Plays.{split_asks}
use Rattle.ftl_pool.proofs.count.Count.another.Goals as goal

pub split_seat-requires : goal.split_seat-requires
split_seat-requires c =
    let of = ap (λ (t : TallyModel). t.state.items) c.tally.view_is ∙ c.requires.made.1 in
    let is = ap (λ (p : PoolModel). p.items) c.self.view_is in
    let table = ap (λ (t : TallyModel). t.table) c.tally.view_is ∙ c.requires.made.0
    ∙ sym (ap (λ (p : PoolModel). p.table) c.self.view_is) in
    let asks = split_asks c.args.self.now.items c.self.inside.table.shared.key c.self.inside.table.shared.table_id
    c.tally.inside.seat.id c.tally.inside.seat.me of is c.self.invariant.0 c.self.invariant.2
    (subst (λ (t : TallyModel). 0 < t.state.spare)
    (sym c.tally.view_is) c.requires.spare) in
    (table, asks.0, asks.1)
