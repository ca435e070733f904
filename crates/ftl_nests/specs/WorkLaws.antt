-- A stage with nests is lawful work; which items it has, and what each hands on to.
use Rattle.std.specs.Prelude.{◌≡◌, ◌≢◌, ◌⊎◌, ◌↔◌, ℕ, suc, ◌^◌, ◌<◌, ◌≤◌, true, List, [], ◌∷◌, length, Option, None, Some, slice_index_or, Contains}
use Rattle.ftl_cells.specs.shared.Shape.{listed}
use Rattle.ftl_cells.specs.shared.State.{AreFirst, AreLast}
use Rattle.ftl_cells.specs.shared.Work.{IsLawfulWork}
use Rattle.ftl_model.specs.layout.AttributeGrammar.{AttributeGrammar}
use Rattle.ftl_model.specs.layout.Path.{Above, AtOrAbove, Has, Path, class_at, size_at}
use Rattle.ftl_model.specs.layout.Solves.{Instance}
use Rattle.ftl_model.specs.layout.Table.{instance_count}
use Rattle.ftl_model.specs.layout.Tree.{Forest}
use Rattle.ftl_model.specs.layout.TreeOf.{IsTreeOf}
use Rattle.ftl_model.specs.layout.Values.{IsValue, Value, overflow}
use Rattle.ftl_order.specs.orders.Lawful.{IsLawful}
use Rattle.ftl_order.specs.orders.LegalOrder.{IsStep}
use Rattle.ftl_order.specs.orders.Reads.{reads_of}
use Rattle.ftl_order.specs.orders.Schedule.{Schedule, inorder, placing_of, topdown}
use Rattle.ftl_items.specs.stage_items.Cut.{begins_by, nodes_by, subtree}
use Rattle.ftl_items.specs.stage_items.Items.{cuts_of, is_next_by, item, kinds_of}
use Rattle.ftl_items.specs.stage_items.StageWork.{form_items, stage_work}
use Rattle.ftl_nests.specs.Flat.{plain}
use Rattle.ftl_nests.specs.NestItems.{is_whole_with, nest_form, nest_work, pass_count}
use Rattle.ftl_nests.specs.Nests.{IsNestOrdered, Nest, NestingSchedule, nesting_pass, outer_schedule}

-- no inorder pass has a nest
abbrev pub NoInorderNests : NestingSchedule → Type 0
NoInorderNests s =
    (m n : ℕ) (nest : Nest) → (nesting_pass s m n).nest ≡ Some nest → (nesting_pass s m n).kind ≢ inorder

-- of each stage of an ordered schedule with nests, on each tree of a lawful grammar and at each grain
abbrev pub OfNestStages : (AttributeGrammar → NestingSchedule → Forest → (grain stage : ℕ) → Type 0) → Type 0
OfNestStages P =
    (g : AttributeGrammar) (s : NestingSchedule) (t : Forest) → IsLawful g → IsNestOrdered g s → NoInorderNests s
    → IsTreeOf g t → (grain stage : ℕ) → P g s t grain stage

-- the values are in range, cells and items have numbers of 32 bits, and no step of the stage reads more than so much
pub record IsWithin (g : AttributeGrammar) (s : NestingSchedule) (t : Forest) (grain stage : ℕ) (solution : List Value)
    (max_reads : ℕ) : Type 0 where
  pub values : (c : ℕ) → c < instance_count g t → IsValue (slice_index_or solution c overflow)
  pub cells : instance_count g t < 2 ^ 32
  pub items : length (form_items g t (pass_count s stage) (nest_form g s t grain stage)) < 2 ^ 32
  pub reads : (i : Instance) → IsStep g t i → (placing_of (outer_schedule s) i.attribute).stage ≡ stage
      → length (reads_of g t i) ≤ max_reads
  pub few : max_reads < 2 ^ 32

-- a stage is lawful work
abbrev pub NestStagesAreLawfulWork : AttributeGrammar → NestingSchedule → Forest → (grain stage : ℕ) → Type 0
NestStagesAreLawfulWork g s t grain stage =
    (solution : List Value) (max_reads max_stack : ℕ) → IsWithin g s t grain stage solution max_reads
    → IsLawfulWork (listed (nest_work g s t grain stage solution max_reads max_stack))

-- the cells' words after a stage are those before the next, for the same solution
abbrev pub NestWordsFitTheNextStage : AttributeGrammar → NestingSchedule → Forest → (grain stage : ℕ) → Type 0
NestWordsFitTheNextStage g s t grain stage =
    (solution : List Value) (reads stack more_reads more_stack : ℕ) (words : List ℕ)
    → AreLast (listed (nest_work g s t grain stage solution reads stack)) words
    → AreFirst (listed (nest_work g s t grain (suc stage) solution more_reads more_stack)) words

-- a stage without nests is the work that it was
abbrev pub PlainStagesAreWorkAsBefore : Type 0
PlainStagesAreWorkAsBefore =
    (g : AttributeGrammar) (s : Schedule) (t : Forest) (grain stage : ℕ) (solution : List Value)
    (max_reads max_stack : ℕ)
    → nest_work g (plain s) t grain stage solution max_reads max_stack
    ≡ stage_work g s t grain stage solution max_reads max_stack

-- ---- the three sorts of items

-- the node is of the host class
abbrev pub IsHostOf : Option Nest → Forest → Path → Type 0
IsHostOf None t p = ⊥
IsHostOf (Some nest) t p = class_at t p ≡ nest.host

-- a small tree that lies in no larger one and in no larger tree of a host
abbrev pub IsSmallItem : Option Nest → Forest → (grain : ℕ) → Path → Type 0
IsSmallItem nest t grain p =
    (size_at t p ≤ grain) × ((q : Path) → Above q p → (grain < size_at t q) × (IsHostOf nest t q → ⊥))

-- the tree of a host that lies in no item of the first sort
abbrev pub IsHostItem : Option Nest → Forest → (grain : ℕ) → Path → Type 0
IsHostItem nest t grain p =
    IsHostOf nest t p × ((q : Path) → AtOrAbove q p → IsSmallItem nest t grain q → ⊥)

-- a node that lies in neither
abbrev pub IsNodeItem : Option Nest → Forest → (grain : ℕ) → Path → Type 0
IsNodeItem nest t grain p =
    (q : Path) → AtOrAbove q p → (IsSmallItem nest t grain q ⊎ IsHostItem nest t grain q) → ⊥

-- an item begins at a node exactly where it is of one of the three sorts, and it has the whole tree in the first two
abbrev pub ItemsAreOfThreeSorts : AttributeGrammar → NestingSchedule → Forest → (grain stage : ℕ) → Type 0
ItemsAreOfThreeSorts g s t grain stage =
    (m : ℕ) (p : Path) → Has t p
    → ((begins_by (is_whole_with (nesting_pass s stage m).nest t grain) p ≡ true)
    ↔ (IsSmallItem (nesting_pass s stage m).nest t grain p
    ⊎ (IsHostItem (nesting_pass s stage m).nest t grain p ⊎ IsNodeItem (nesting_pass s stage m).nest t grain p)))
    × (IsSmallItem (nesting_pass s stage m).nest t grain p
    → nodes_by (is_whole_with (nesting_pass s stage m).nest t grain) t p ≡ subtree t p)
    × (IsHostItem (nesting_pass s stage m).nest t grain p
    → nodes_by (is_whole_with (nesting_pass s stage m).nest t grain) t p ≡ subtree t p)
    × (IsNodeItem (nesting_pass s stage m).nest t grain p
    → nodes_by (is_whole_with (nesting_pass s stage m).nest t grain) t p ≡ p ∷ [])

-- in a topdown pass an item of a whole tree hands on to none
abbrev pub WholeTreesHandOnToNone : AttributeGrammar → NestingSchedule → Forest → (grain stage : ℕ) → Type 0
WholeTreesHandOnToNone g s t grain stage =
    (m : ℕ) (p q : Path) → m < pass_count s stage → (nesting_pass s stage m).kind ≡ topdown
    → Contains (form_items g t (pass_count s stage) (nest_form g s t grain stage)) (item m q)
    → is_next_by (kinds_of (cuts_of (nest_form g s t grain stage))) (item m p) (item m q) ≡ true
    → IsNodeItem (nesting_pass s stage m).nest t grain p
