-- Steps that wait, with what a fold has so far.
use Rattle.std.specs.Prelude.{◌≡◌, ℕ, ◌≤◌, List}
use Rattle.std.specs.Option.{IfNone, IfSome}
use Rattle.ftl_deps.specs.parts.RuleParts.{parts_named}
use Rattle.ftl_deps.specs.reads.Meant.{meant}
use Rattle.ftl_meaning.specs.grammars.Meaning.{sight}
use Rattle.ftl_model.specs.layout.AttributeGrammar.{Read, fold_over, from_part, with_part}
use Rattle.ftl_model.specs.layout.Folds.{fold_kids}
use Rattle.ftl_model.specs.layout.Values.{Value, overflow}
use Rattle.ftl_order.specs.declared.steps.step.Step.{Step}
use Rattle.ftl_order.specs.steps.Steps.{IsStepOf, rule_at}
use Rattle.ftl_step_value.specs.cells.ReadCells.{filled_cell}
use Rattle.ftl_tree.specs.trees.CheckedTree.{CheckedTree}
use Rattle.ftl_visit.specs.rule_values.PartValues.{part_value}
use Rattle.ftl_visit.specs.step_reads.StepReads.{kids_in}
use Rattle.ftl_demand.specs.declared.demand.waiting.Waiting.{Waiting}
use Rattle.ftl_demand.specs.demand.Outcomes.{value_at}
use Rattle.ftl_demand.specs.demand.Words.{IsSolution}

-- what a fold gives over the first kids
abbrev pub fold_over_first : CheckedTree → (values : List Value) → Step → (kids : ℕ) → Value
fold_over_first t values x n =
    fold_kids n
    (λ so_far k.
    part_value t.checked x.rule with_part (sight (kids_in t x.node) k (value_at t values x.node) so_far))
    (part_value t.checked x.rule from_part (sight (kids_in t x.node) x.kid (value_at t values x.node) overflow))

-- The step is one of the tree, and fills the cell. What its fold has so far is what it gives over the kids that it has
-- taken, whatever values solve; it has taken none before its start is there.
pub record IsWaiting (t : CheckedTree) (w : Waiting) : Type 0 where
  pub step : IsStepOf (meant t.checked) t.tree w.step
  pub cell : w.cell ≡ filled_cell (meant t.checked) t.tree w.step
  pub begun : IfNone w.so_far (w.taken ≡ 0)
  pub so_far_is :
      IfSome w.so_far
      (λ v.
      (values : List Value) → IsSolution (meant t.checked) t.tree values → v ≡ fold_over_first t values w.step w.taken)
  pub few :
      (child : ℕ) (start step : List Read)
      → parts_named (meant t.checked) (rule_at (meant t.checked) w.step.rule) ≡ fold_over child start step
      → w.taken ≤ kids_in t w.step.node child
