-- The steps of an item of a stage: steps of the tree, which compute what the item has.
use Rattle.std.specs.Prelude.{◌≡◌, ℕ, List, map, Contains}
use Rattle.ftl_deps.specs.reads.Meant.{meant}
use Rattle.ftl_cursors.specs.items.StageItems.{cuts_in, item_in, pass_numbered, tree_of}
use Rattle.ftl_items.specs.stage_items.Items.{PassForm, item_steps, pass_place}
use Rattle.ftl_items.specs.stage_items.Visits.{visit}
use Rattle.ftl_model.specs.layout.AttributeGrammar.{AttributeGrammar}
use Rattle.ftl_model.specs.layout.Solves.{Instance}
use Rattle.ftl_model.specs.layout.Tree.{Forest}
use Rattle.ftl_order.specs.orders.Schedule.{EachStandsOnce, Schedule, pass_at, placing_of}
use Rattle.ftl_order.specs.orders.Sequence.{sequence}
use Rattle.ftl_schedule.specs.declared.syntax.kind.PassKind.{PassKind}
use Rattle.ftl_schedule.specs.declared.syntax.kind.PassKind.TheVariants.{BottomUp, InOrder, TopDown}
use Rattle.ftl_cursors.specs.stages.PassTables.{pass_places, pass_visits}
use Rattle.ftl_order.specs.steps.Steps.{IsStepOf, target_of}
use Rattle.ftl_order.specs.declared.steps.step.Step.{Step}
use Rattle.ftl_cursors.specs.declared.visits.nodes.NodeOrder.{NodeOrder}
use Rattle.ftl_cursors.specs.declared.visits.nodes.NodeOrder.TheVariants.{Preorder, Reverse}
use Rattle.ftl_visit.specs.passes.VisitRows as rows
use Rattle.ftl_cursors.specs.declared.item_cursor.cursor.ItemCursor.{ItemCursor}
use Rattle.ftl_cursors.specs.declared.item_cursor.cursor.ItemCursor.TheVariants.{Sequence, Visits}
use Rattle.ftl_cursors.specs.declared.item_cursor.item.ItemTables.{ItemTables}

-- the steps that are left
abbrev pub steps_left : ItemCursor → List Step
steps_left (Visits steps) = steps
steps_left (Sequence steps) = steps

-- no step of a tree
abbrev pub no_step : Step
no_step = record { node = 0; rule = 0; kid = 0 }

-- the steps are steps of the tree, and compute these instances
pub record AreStepsOf (g : AttributeGrammar) (t : Forest) (instances : List Instance) (steps : List Step) : Type 0 where
  pub steps_are : (x : Step) → Contains steps x → IsStepOf g t x
  pub targets : map (target_of g t) steps ≡ instances

-- ---- the items of a stage

-- the grammar
abbrev pub grammar_in : ItemTables → AttributeGrammar
grammar_in x = meant x.items.rows.now.tree.now.checked

-- the tree
abbrev pub forest_in : ItemTables → Forest
forest_in x = tree_of x.items

-- the visits are those of the passes, with the places of their blocks, and the targets those of the rules
pub record AreItemTables (x : ItemTables) : Type 0 where
  pub visits : x.visits.now ≡ map (pass_visits (grammar_in x)) x.items.passes.now
  pub places : x.places.now ≡ map (pass_places (grammar_in x)) x.items.passes.now
  pub targets : x.targets.now ≡ map rows.target_of (grammar_in x).rules

-- topdown passes visit the nodes of an item in preorder, and bottomup passes the other way round
abbrev pub order_of : PassKind → NodeOrder
order_of TopDown = Preorder
order_of BottomUp = Reverse
order_of InOrder = Preorder

-- the form of the pass of a number in a stage of a schedule, cut as the rows cut it
abbrev pub form_in : ItemTables → Schedule → (stage pass : ℕ) → PassForm
form_in x s stage m =
    record {
      cut = cuts_in x.items m;
      visit = visit (grammar_in x) (forest_in x) (pass_numbered x.items m).attributes;
      sequence = sequence (grammar_in x) (placing_of s) (pass_place stage m) (forest_in x);
    }

-- what is left are the steps of the item of this number, in a stage of a schedule that has the item's pass and each
-- computed attribute once
abbrev pub IsCursorOf : ItemTables → (item : ℕ) → ItemCursor → Type 0
IsCursorOf x i cursor =
    (s : Schedule) (stage : ℕ) → EachStandsOnce (grammar_in x) s
    → pass_at s stage (item_in x.items i).pass ≡ pass_numbered x.items (item_in x.items i).pass
    → AreStepsOf (grammar_in x) (forest_in x)
    (item_steps (form_in x s stage) (forest_in x) (item_in x.items i)) (steps_left cursor)
