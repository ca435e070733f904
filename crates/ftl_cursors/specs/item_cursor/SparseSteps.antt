-- What is left of the steps of an item in which few nodes have rules.
use Rattle.std.specs.Prelude.{List}
use Rattle.ftl_order.specs.declared.steps.step.Step.{Step}
use Rattle.ftl_cursors.specs.declared.item_cursor.sparse_cursor.SparseSteps.{SparseSteps}
use Rattle.ftl_cursors.specs.declared.item_cursor.sparse_cursor.SparseSteps.TheVariants.{Sequence, Visits}

-- the steps that are left
abbrev pub sparse_steps_left : SparseSteps → List Step
sparse_steps_left (Visits steps) = steps
sparse_steps_left (Sequence steps) = steps
