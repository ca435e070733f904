use Rattle.std.proofs.Common.{ap, sym, ◌∙◌}
use Rattle.ftl_cells.proofs.shared.Seats.{fill_asks}
use Rattle.ftl_cells.proofs.shared.cells.Cells.store_cell.Goals as goal

pub store-requires : goal.store-requires
store-requires g c =
    let inside = c.self.inside in
    let asks = fill_asks (g.W.Meant.meaning c.args.self.now.1) (g.W.Meant.meaning inside.table.shared.key)
    (g.W.Meant.meaning inside.work) inside.table.shared.table_id inside.states inside.counters c.args.seat.now.id
    c.args.seat.now.me
    c.requires.seat.1 (ap g.W.Meant.meaning c.self.invariant.0)
    (ap (λ z. g.W.Meant.meaning z.1) c.self.view_is) c.self.invariant.1 c.args._item c.args._step c.args.word
    c.args.cell c.requires.step c.requires.word c.requires.cell c.requires.working in
    (c.requires.seat.0 ∙ sym (ap (λ z. z.0) c.self.view_is), asks.0, asks.1)
