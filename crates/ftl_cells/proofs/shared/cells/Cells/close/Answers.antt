use Rattle.std.proofs.Common.{◌≡◌, arith, ap, ◌∙◌, subst, length}
use Rattle.std.specs.Slots.{slots_items}
use Rattle.atomic_table.specs.Table.{Final, Seen}
use Rattle.ftl_cells.specs.shared.Work.{cell_total}
use Rattle.ftl_cells.specs.shared.State.{AreLast}
use Rattle.ftl_cells.proofs.shared.Plays.{Holds}
use Rattle.ftl_cells.proofs.shared.Closing.{are_last}
use Rattle.ftl_cells.proofs.shared.cells.Cells.close.Goals as goal

pub returns : goal.returns
returns g c = record {
  words =
      let inside = c.self.inside in
      let seat = c.hand.inside.seat in
      let table = c.self.invariant.1 in
      let closed = c.close_with-closed.result in
      let room = c.self.invariant.2 in
      let count : length c.copy_cells.new.words.items ≡ cell_total (g.W.Meant.meaning inside.work) = omega arith in
      subst (λ z. AreLast (g.W.Meant.meaning z.1) c.copy_cells.new.words.items) c.self.view_is
      (are_last (g.W.Meant.meaning inside.work) table.lawful seat.id seat.me.0 (slots_items closed.words)
      (slots_items closed.slots)
      (ap (λ h. h.state.place) c.hand.view_is ∙ c.requires.ended)
      (subst (λ w. Final (Seen (Holds (g.W.Meant.meaning w)) seat.id seat.me.0) (slots_items closed.words)
      (slots_items closed.slots)) c.self.invariant.0 c.close_with-closed.ensures.values.2)
      c.copy_cells.new.words.items count (λ k l. c.copy_cells.ensures.each k (omega arith)));
}
