-- When passes of such forms are lawful work: each step has a place in the tree, and what it reads stands directly
-- before it.
use Rattle.std.specs.Prelude.{◌≡◌, ◌≢◌, ◌⊎◌, ℕ, ◌^◌, ◌<◌, ◌≤◌, List, length, slice_index_or, Contains, Some}
use Rattle.ftl_cells.specs.shared.Shape.{listed}
use Rattle.ftl_cells.specs.shared.Work.{IsLawfulWork}
use Rattle.ftl_cells.specs.declared.shared.kind.CellKind.{CellKind}
use Rattle.ftl_cells.specs.declared.shared.kind.CellKind.TheVariants.{Given, Target}
use Rattle.ftl_model.specs.lists.Lists.{AreDistinct, StandsBefore}
use Rattle.ftl_model.specs.layout.AttributeGrammar.{AttributeGrammar}
use Rattle.ftl_model.specs.layout.Path.{Has, Path, parent_of}
use Rattle.ftl_model.specs.layout.Solves.{Instance, IsInstance}
use Rattle.ftl_model.specs.layout.Table.{instance_count}
use Rattle.ftl_model.specs.layout.Tree.{Forest}
use Rattle.ftl_model.specs.layout.TreeOf.{IsTreeOf}
use Rattle.ftl_model.specs.layout.Values.{IsValue, Value, overflow}
use Rattle.ftl_order.specs.orders.Lawful.{IsLawful}
use Rattle.ftl_order.specs.orders.LegalOrder.{IsStep}
use Rattle.ftl_order.specs.orders.Reads.{Reads, reads_of}
use Rattle.ftl_order.specs.orders.Schedule.{PassKind, bottomup, inorder, topdown}
use Rattle.ftl_items.specs.stage_items.Items.{PassForm}
use Rattle.ftl_items.specs.stage_items.StageWork.{form_items, work_by}

-- the steps of a pass at a node: those of its visit, or in an inorder pass, which has no visits, all
abbrev pub steps_at_node : PassKind → PassForm → Path → List Instance
steps_at_node topdown form p = form.visit p
steps_at_node bottomup form p = form.visit p
steps_at_node inorder form p = form.sequence

-- a step of the pass of this number: its place is in the tree, and the pass has it there
pub record IsOfPass (t : Forest) (count : ℕ) (forms : ℕ → PassForm) (place : Instance → Path) (m : ℕ) (i : Instance) : Type 0 where
  pub known : m < count
  pub there : Has t (place i)
  pub has : Contains (steps_at_node (forms m).cut.kind (forms m) (place i)) i

-- Step j stands directly before step i in a pass of this kind: before it in one visit, or in the visit of the parent
-- (topdown) or of a kid (bottomup); or before it in the sequence.
abbrev pub StandsDirectlyBefore : PassKind → PassForm → (place : Instance → Path) → Instance → Instance → Type 0
StandsDirectlyBefore topdown form place j i =
    ((place j ≡ place i) × StandsBefore (form.visit (place i)) j i) ⊎ (parent_of (place i) ≡ Some (place j))
StandsDirectlyBefore bottomup form place j i =
    ((place j ≡ place i) × StandsBefore (form.visit (place i)) j i) ⊎ (parent_of (place j) ≡ Some (place i))
StandsDirectlyBefore inorder form place j i = StandsBefore form.sequence j i

-- Each step of the tree whose cell is a target is of just one pass, and stands there once, at its place. What it reads
-- is given, or stands directly before it.
pub record AreForms (g : AttributeGrammar) (t : Forest) (count : ℕ) (forms : ℕ → PassForm)
    (kind_at : Instance → CellKind) (place : Instance → Path) : Type 0 where
  pub step : (m : ℕ) (i : Instance) → IsOfPass t count forms place m i → IsStep g t i
  pub one : (m n : ℕ) (i : Instance) → IsOfPass t count forms place m i → IsOfPass t count forms place n i → m ≡ n
  pub target : (m : ℕ) (i : Instance) → IsOfPass t count forms place m i → kind_at i ≡ Target
  pub targets : (i : Instance) → IsInstance g t i → kind_at i ≡ Target
      → (m : ℕ) × IsOfPass t count forms place m i
  pub placed : (m : ℕ) → m < count → (p : Path) → Has t p → (i : Instance)
      → Contains (steps_at_node (forms m).cut.kind (forms m) p) i
      → Has t (place i) × ((forms m).cut.kind ≢ inorder → place i ≡ p)
  pub once : (m : ℕ) → m < count → (p : Path) → Has t p
      → AreDistinct (steps_at_node (forms m).cut.kind (forms m) p)
  pub reads : (m : ℕ) (i j : Instance) → IsOfPass t count forms place m i → Reads g t i j
      → (kind_at j ≡ Given)
      ⊎ (IsOfPass t count forms place m j × StandsDirectlyBefore (forms m).cut.kind (forms m) place j i)

-- the values are in range, cells and items have numbers of 32 bits, and no step reads more than so much
pub record AreFormsWithin (g : AttributeGrammar) (t : Forest) (count : ℕ) (forms : ℕ → PassForm)
    (place : Instance → Path) (solution : List Value) (max_reads : ℕ) : Type 0 where
  pub values : (c : ℕ) → c < instance_count g t → IsValue (slice_index_or solution c overflow)
  pub cells : instance_count g t < 2 ^ 32
  pub items : length (form_items g t count forms) < 2 ^ 32
  pub reads : (m : ℕ) (i : Instance) → IsOfPass t count forms place m i → length (reads_of g t i) ≤ max_reads
  pub few : max_reads < 2 ^ 32

-- then their stage is lawful work, on each tree of a lawful grammar
abbrev pub FormsAreLawfulWork : Type 0
FormsAreLawfulWork =
    (g : AttributeGrammar) (t : Forest) → IsLawful g → IsTreeOf g t
    → (count : ℕ) (forms : ℕ → PassForm) (kind_at : Instance → CellKind) (place : Instance → Path)
    → AreForms g t count forms kind_at place
    → (solution : List Value) (max_reads max_stack : ℕ) → AreFormsWithin g t count forms place solution max_reads
    → IsLawfulWork (listed (work_by g t count forms kind_at solution max_reads max_stack))
