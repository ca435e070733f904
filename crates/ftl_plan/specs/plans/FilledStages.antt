-- Which stages of a plan fill cells of the tree: those in which an attribute of a node stands.
use Rattle.std.specs.Prelude.{◌≡◌, ℕ, ◌<◌, Bool, true, false, List, length, slice_index_or, Contains}
use Rattle.ftl_cells.specs.shared.State.{AreFirst, AreLast}
use Rattle.ftl_model.specs.layout.AttributeGrammar.{AttributeGrammar, attributes_of}
use Rattle.ftl_model.specs.layout.Path.{class_at, node_at}
use Rattle.ftl_model.specs.layout.Tree.{Forest, size}
use Rattle.ftl_nest_check.specs.stages.Nested.{nests_of}
use Rattle.ftl_order.specs.orders.Schedule.{Schedule, stage_of}
use Rattle.ftl_plan.specs.plans.Planned.{PlanMeaning}
use Rattle.ftl_plan.specs.plans.StageParts.{meaning_at}
use Rattle.ftl_plan.specs.plans.StageTables.{stage_in}

-- the mark of this number is set
abbrev pub IsSet : (marks : List Bool) → (number : ℕ) → Type 0
IsSet marks n = slice_index_or marks n false ≡ true

-- those that were set are
abbrev pub StaySet : (old new : List Bool) → Type 0
StaySet old new = (n : ℕ) → IsSet old n → IsSet new n

-- those of the classes of so many nodes are set
abbrev pub AreClassesSet : Forest → (nodes : ℕ) → (marks : List Bool) → Type 0
AreClassesSet t nodes marks = (n : ℕ) → n < nodes → IsSet marks (class_at t (node_at t n))

-- those of the stages are set in which these attributes stand
abbrev pub AreStagesSet : Schedule → (attributes : List ℕ) → (marks : List Bool) → Type 0
AreStagesSet s attributes marks =
    (a : ℕ) → Contains attributes a → stage_of s a < length marks → IsSet marks (stage_of s a)

-- there are so many, and those of the stages are set in which attributes of nodes stand
pub record AreSetForNodes (g : AttributeGrammar) (s : Schedule) (t : Forest) (count : ℕ) (marks : List Bool) : Type 0 where
  pub count_is : length marks ≡ count
  pub each : (n : ℕ) → n < size t → AreStagesSet s (attributes_of g (class_at t (node_at t n))) marks

-- the words that fit a stage are those that close it
abbrev pub LeavesWords : PlanMeaning → (stage : ℕ) → Type 0
LeavesWords p stage =
    (words : List ℕ) → AreFirst (meaning_at (stage_in p stage)) words → AreLast (meaning_at (stage_in p stage)) words

-- there is a mark for each stage, and one whose mark is not set leaves the words as they are
pub record TellFilling (p : PlanMeaning) (marks : List Bool) : Type 0 where
  pub count : length marks ≡ length (nests_of p.schedule)
  pub others : (stage : ℕ) → slice_index_or marks stage true ≡ false → LeavesWords p stage
