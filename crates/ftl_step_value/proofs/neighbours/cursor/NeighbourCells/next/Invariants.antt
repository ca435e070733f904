use Rattle.std.proofs.Common.{◌≡◌, length}
use Rattle.ftl_step_value.specs.neighbours.NeighbourCells.{IsCursor, cells_left}
use Rattle.ftl_step_value.proofs.neighbours.cursor.NeighbourCells.next.Given as goal

-- what is left is there, and no cell was passed over
abbrev pub invariant-loop-self : goal.invariant-loop-self
invariant-loop-self l = record {
  cursor : IsCursor l.self-inside;
  left : cells_left l.self-inside ≡ l.fn.self;
}

abbrev pub decreases-loop-self : goal.decreases-loop-self
decreases-loop-self l = length l.self-inside.kids.now
