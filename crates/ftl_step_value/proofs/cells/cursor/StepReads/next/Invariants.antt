use Rattle.std.proofs.Common.{◌≡◌, ◌+◌, ◌*◌, ◌-◌, length}
use Rattle.ftl_step_value.specs.cells.Cursor.{IsCursor, cells_left}
use Rattle.ftl_step_value.proofs.cells.cursor.StepReads.next.Given as goal

-- what is left is there, and no cell was passed over
abbrev pub invariant-loop-self : goal.invariant-loop-self
invariant-loop-self l = record {
  cursor : IsCursor l.self-inside;
  left : cells_left l.self-inside ≡ l.fn.self;
}

abbrev pub decreases-loop-self : goal.decreases-loop-self
decreases-loop-self l =
    l.self-inside.kids_left * (length l.self-inside.step.now + 1) + (length l.self-inside.reads.now - l.self-inside.place)
