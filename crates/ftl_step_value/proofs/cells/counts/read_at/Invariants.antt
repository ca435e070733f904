use Rattle.std.proofs.Common.{◌≡◌, drop}
use Rattle.ftl_deps.specs.reads.Meant.{meant}
use Rattle.ftl_step_value.specs.cells.ReadCells.{read_cells}
use Rattle.ftl_step_value.proofs.cells.counts.read_at.Given as goal

abbrev pub invariant-loop-before : goal.invariant-loop-before
invariant-loop-before l = l.reads ≡ drop l.before (read_cells (meant l.tree.checked) l.tree.tree l.fn.step)
