use Rattle.std.proofs.Common.{ap, sym, ◌∙◌}
use Rattle.ftl_pool.specs.Count.{PoolModel, TallyModel}
use Rattle.ftl_pool.proofs.Plays.{load_asks}
use Rattle.ftl_pool.proofs.count.Count.load.Goals as goal

pub load-requires : goal.load-requires
load-requires c =
    let of = ap (λ (t : TallyModel). t.state.items) c.tally.view_is ∙ c.requires.made.1 in
    let is = ap (λ (p : PoolModel). p.items) c.self.view_is in
    let table = ap (λ (t : TallyModel). t.table) c.tally.view_is ∙ c.requires.made.0
    ∙ sym (ap (λ (p : PoolModel). p.table) c.self.view_is) in
    let asks = load_asks c.args.self.now.items c.self.inside.table.shared.key c.self.inside.table.shared.table_id
    c.tally.inside.seat.id c.tally.inside.seat.me of is c.self.invariant.0 c.self.invariant.2 in
    (table, asks.0, asks.1)
