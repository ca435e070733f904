use Rattle.std.proofs.Common.{arith, ap, sym, subst, ◌∙◌, ◌<◌}
use Rattle.ftl_pool.specs.Count.{PoolModel, TallyModel}
use Rattle.ftl_pool.proofs.Plays.{put_asks}
use Rattle.ftl_pool.proofs.count.Count.add.Goals as goal

pub fetch_add-requires : goal.fetch_add-requires
fetch_add-requires c =
    let of = ap (λ (t : TallyModel). t.state.items) c.tally.view_is ∙ c.requires.made.1 in
    let is = ap (λ (p : PoolModel). p.items) c.self.view_is in
    let table = ap (λ (t : TallyModel). t.table) c.tally.view_is ∙ c.requires.made.0
    ∙ sym (ap (λ (p : PoolModel). p.table) c.self.view_is) in
    let asks = put_asks c.args.self.now.items c.self.inside.table.shared.key c.self.inside.table.shared.table_id
    c.tally.inside.seat.id c.tally.inside.seat.me of is c.self.invariant.0 c.self.invariant.2
    (subst (λ (t : TallyModel). t.state.puts < c.args.self.now.items)
    (sym c.tally.view_is) (omega (arith, c.requires.there, c.requires.few))) in
    (table, asks.0, asks.1)
