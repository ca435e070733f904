use Rattle.std.proofs.Common.{◌≡◌, ◌-◌, length}
use Rattle.ftl_document.specs.syntax.Rows.{rows_of_fields}
use Rattle.ftl_document.specs.syntax.Written.{WrittenFields}
use Rattle.ftl_document.proofs.fields.RowSteps.{IsReached}
use Rattle.ftl_document.proofs.fields.field_rows.own_fields.Given as goal

abbrev pub invariant-loop-at : goal.invariant-loop-at
invariant-loop-at l = (written : WrittenFields) → l.rows ≡ rows_of_fields written → IsReached l.rows l.at l.fields.items written

abbrev pub decreases-loop-at : goal.decreases-loop-at
decreases-loop-at l = length l.rows - l.at
