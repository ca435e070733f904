use Rattle.std.proofs.Common.{◌≡◌, ◌++◌, drop, map}
use Rattle.ftl_deps.specs.reads.Meant.{meant}
use Rattle.ftl_step_value.specs.cells.ReadCells.{filled_cell}
use Rattle.ftl_example.proofs.examples.shown_order.numbers_of.Given as goal

abbrev pub invariant-loop-place : goal.invariant-loop-place
invariant-loop-place l =
    l.numbers ++ map (filled_cell (meant l.tree.checked) l.tree.tree) (drop l.place l.steps)
    ≡ map (filled_cell (meant l.tree.checked) l.tree.tree) l.steps
