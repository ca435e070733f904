use Rattle.std.proofs.Common.{◌≡◌, length}
use Rattle.ftl_document.specs.syntax.RowsLeft.{resume}
use Rattle.ftl_document.proofs.syntax.open.finish.Given as goal

abbrev pub invariant-loop-inside : goal.invariant-loop-inside
invariant-loop-inside l = resume l.fn.stack l.fn.rows.items l.fn.input ≡ resume l.stack l.rows.items l.input

abbrev pub decreases-loop-inside : goal.decreases-loop-inside
decreases-loop-inside l = length l.input
