-- The classes of the nodes of items, for each block of 64 items that follow one another by number.
use Rattle.std.specs.Prelude.{◌≡◌, ◌≢◌, ℕ, ◌+◌, ◌*◌, ◌/◌, ◌<◌, ◌≤◌, List, length, slice_index_or}
use Rattle.ftl_items.specs.stage_items.Cut.{PassCut, nodes_by}
use Rattle.ftl_items.specs.stage_items.Items.{Item, items_by, no_item}
use Rattle.ftl_model.specs.layout.Path.{Path}
use Rattle.ftl_model.specs.layout.Tree.{Forest}
use Rattle.ftl_order.specs.orders.Schedule.{inorder}
use Rattle.ftl_cursors.specs.classes.ClassSets.{HasAllOf, HasClassesOf, block_of}
use Rattle.ftl_cursors.specs.items.StageItems.{cuts_in, item_in, passes_in, tree_of}
use Rattle.ftl_cursors.specs.declared.items.view.StageItems.{StageItems}

-- the nodes of an item of a topdown or bottomup pass, in preorder, where the passes of a stage are cut so
abbrev pub nodes_cut : (cuts : ℕ → PassCut) → Forest → Item → List Path
nodes_cut cuts t x = nodes_by (cuts x.pass).is_whole t x.first

-- those of an item of a stage
abbrev pub nodes_in_item : StageItems → Item → List Path
nodes_in_item s x = nodes_cut (cuts_in s) (tree_of s) x

-- the set of the block in which an item lies
abbrev pub set_of : (sets : List ℕ) → (item : ℕ) → ℕ
set_of sets i = slice_index_or sets (block_of i) 0

-- the item is one of a topdown or bottomup pass
abbrev pub IsOfVisitsBy : (cuts : ℕ → PassCut) → Item → Type 0
IsOfVisitsBy cuts x = (cuts x.pass).kind ≢ inorder

-- so is the item of a number in a stage
abbrev pub IsOfVisits : StageItems → (item : ℕ) → Type 0
IsOfVisits s i = IsOfVisitsBy (cuts_in s) (item_in s i)

-- Of so many passes of a stage that are cut so: there is a set for each block of items, and it has the class of each node
-- of the block's items. Of an item of an inorder pass it need have none.
pub record HaveItemClasses (count : ℕ) (cuts : ℕ → PassCut) (t : Forest) (sets : List ℕ) : Type 0 where
  pub blocks : length (items_by count cuts t) ≤ 64 * length sets
  pub classes : (i : ℕ) → i < length (items_by count cuts t)
      → IsOfVisitsBy cuts (slice_index_or (items_by count cuts t) i no_item)
      → HasClassesOf (set_of sets i) t (nodes_cut cuts t (slice_index_or (items_by count cuts t) i no_item))

-- so of the stage
abbrev pub AreItemClasses : StageItems → (sets : List ℕ) → Type 0
AreItemClasses s sets = HaveItemClasses (length (passes_in s)) (cuts_in s) (tree_of s) sets

-- ---- while the sets are made

-- there are the sets of the blocks of the first so many items, with the classes of their nodes
pub record AreFirstClasses (s : StageItems) (count : ℕ) (sets : List ℕ) : Type 0 where
  pub blocks : length sets ≡ (count + 63) / 64
  pub classes : (i : ℕ) → i < count → HasClassesOf (set_of sets i) (tree_of s) (nodes_in_item s (item_in s i))

-- the classes were added for the item that came next, and none was taken away
pub record IsAdded (item classes : ℕ) (old new : List ℕ) : Type 0 where
  pub blocks : length new ≡ (item + 1 + 63) / 64
  pub added : HasAllOf (set_of new item) classes
  pub stay : (i : ℕ) → HasAllOf (set_of new i) (set_of old i)
