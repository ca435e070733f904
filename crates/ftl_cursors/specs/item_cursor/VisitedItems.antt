-- Which items have no steps, by the classes that the passes of a stage have operations for.
use Rattle.std.specs.Prelude.{◌≡◌, ℕ, ◌<◌, List, [], length, slice_index_or}
use Rattle.ftl_items.specs.stage_items.Items.{item_steps}
use Rattle.ftl_model.specs.layout.TreeOf.{IsTreeOf}
use Rattle.ftl_order.specs.orders.Lawful.{IsLawful}
use Rattle.ftl_order.specs.orders.Schedule.{Schedule}
use Rattle.ftl_cursors.specs.classes.ClassSets.{HasVisited, HaveNoneInCommon}
use Rattle.ftl_cursors.specs.items.ItemClasses.{AreItemClasses, IsOfVisits, set_of}
use Rattle.ftl_cursors.specs.items.StageItems.{item_in, items_in}
use Rattle.ftl_cursors.specs.item_cursor.ItemSteps.{AreItemTables, forest_in, form_in, grammar_in}
use Rattle.ftl_cursors.specs.declared.item_cursor.item.ItemTables.{ItemTables}

-- the set has each class whose visit has an operation in one of the stage's passes
abbrev pub HasVisitedIn : ItemTables → (set : ℕ) → Type 0
HasVisitedIn x set =
    (m : ℕ) → m < length x.items.passes.now → HasVisited set (slice_index_or x.visits.now m [])

-- an item of a topdown or bottomup pass has no steps where the set of its block has none of the visited classes, in
-- whatever stage of a schedule
abbrev pub ItemsWithoutSteps : Type 0
ItemsWithoutSteps =
    (x : ItemTables) → IsLawful (grammar_in x) → IsTreeOf (grammar_in x) (forest_in x) → AreItemTables x
    → (sets : List ℕ) → AreItemClasses x.items sets → (visited : ℕ) → HasVisitedIn x visited
    → (i : ℕ) → i < length (items_in x.items) → IsOfVisits x.items i → HaveNoneInCommon (set_of sets i) visited
    → (s : Schedule) (stage : ℕ) → item_steps (form_in x s stage) (forest_in x) (item_in x.items i) ≡ []
