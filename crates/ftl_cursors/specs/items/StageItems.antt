-- What rows of items and the items of a stage speak of.
use Rattle.std.specs.Prelude.{◌≡◌, ℕ, ◌+◌, ◌<◌, ◌≤◌, List, length, map, slice_index_or, Option}
use Rattle.ftl_model.specs.layout.Path.{Path, node_at, top}
use Rattle.ftl_model.specs.layout.Tree.{Forest, size}
use Rattle.ftl_model.specs.layout.TreeOf.{IsTreeOf}
use Rattle.ftl_order.specs.orders.Schedule as order
use Rattle.ftl_deps.specs.reads.Meant.{meant}
use Rattle.ftl_items.specs.stage_items.Cut.{PassCut, starts, tops_by}
use Rattle.ftl_items.specs.stage_items.Items.{Item, item, items_by, no_item, pass_in}
use Rattle.ftl_items.specs.numbers.ItemNumbers.{all_kids, start_by}
use Rattle.ftl_schedule.specs.declared.syntax.kind.PassKind.{PassKind}
use Rattle.ftl_schedule.specs.stages.Stages.{kind_of, pass_of}
use Rattle.ftl_schedule.specs.declared.stages.types.Pass.{Pass}
use Rattle.ftl_tree.specs.trees.CheckedTree.{CheckedTree}
use Rattle.ftl_cursors.specs.items.HostRows.{cut_in, hosts_by}
use Rattle.ftl_cursors.specs.items.RowsCut.{is_whole_in}
use Rattle.ftl_cursors.specs.declared.items.by_host.TreeRows.{TreeRows}
use Rattle.ftl_cursors.specs.declared.items.columns.ItemRows.{ItemRows}
use Rattle.ftl_cursors.specs.declared.items.view.FoundItem.{FoundItem}
use Rattle.ftl_cursors.specs.declared.items.view.ItemPlace.{ItemPlace}
use Rattle.ftl_cursors.specs.declared.items.view.StageItems.{StageItems}

-- the numbers of all kids of the node of a number
abbrev pub kids_of : CheckedTree → (node : ℕ) → List ℕ
kids_of t n = all_kids (meant t.checked) t.tree (node_at t.tree n)

-- the tree of rows
abbrev pub tree_in : ItemRows → Forest
tree_in rows = rows.tree.now.tree

-- the nodes at which the items of a pass begin
abbrev pub tops_of : ItemRows → PassKind → List Path
tops_of rows kind = tops_by (kind_of kind) (is_whole_in rows) (tree_in rows)

-- the tree of the stage
abbrev pub tree_of : StageItems → Forest
tree_of s = s.rows.now.tree.now.tree

-- its passes
abbrev pub passes_in : StageItems → List order.Pass
passes_in s = map pass_of s.passes.now

-- their host classes
abbrev pub hosts_in : StageItems → List (Option ℕ)
hosts_in s = hosts_by s.rows.now s.cuts.now

-- how they are cut
abbrev pub cuts_in : StageItems → (pass : ℕ) → PassCut
cuts_in s m = cut_in s.rows.now (passes_in s) s.cuts.now m

-- its items, in order of number
abbrev pub items_in : StageItems → List Item
items_in s = items_by (length (passes_in s)) (cuts_in s) (tree_of s)

-- the item of a number
abbrev pub item_in : StageItems → (number : ℕ) → Item
item_in s i = slice_index_or (items_in s) i no_item

-- the pass of a number
abbrev pub pass_numbered : StageItems → (pass : ℕ) → order.Pass
pass_numbered s m = pass_in (passes_in s) m

-- how many items come before a pass
abbrev pub start_in : StageItems → (pass : ℕ) → ℕ
start_in s m = start_by (cuts_in s) (tree_of s) m

-- the rows are of this tree, with items of at most so many nodes but for the trees of these hosts
pub record IsMadeOf (t : CheckedTree) (grain : ℕ) (host : Option ℕ) (rows : ItemRows) : Type 0 where
  pub tree : rows.tree.now ≡ t
  pub grain_is : rows.grain ≡ grain
  pub host_is : rows.host ≡ host

-- the stage has these passes, with rows of these numbers
pub record IsStageOf (rows : TreeRows) (passes : List Pass) (cuts : List ℕ) (s : StageItems) : Type 0 where
  pub rows_are : s.rows.now ≡ rows
  pub passes_are : s.passes.now ≡ passes
  pub cuts_are : s.cuts.now ≡ cuts

-- the nodes at which the items of a pass begin
abbrev pub tops_in : StageItems → (pass : ℕ) → List Path
tops_in s m = starts (cuts_in s) (tree_of s) m

-- an item is that of this number in this pass
pub record IsItemPlace (s : StageItems) (number : ℕ) (place : ItemPlace) : Type 0 where
  pub known : place.pass < length s.passes.now
  pub start : start_in s place.pass + place.item ≡ number
  pub within : place.item < length (tops_in s place.pass)
  pub entry : item_in s number ≡ item place.pass (slice_index_or (tops_in s place.pass) place.item top)

-- an item of the stage: it is of a pass of this kind, which begins at this number, and begins at this node
pub record IsFound (s : StageItems) (number : ℕ) (found : FoundItem) : Type 0 where
  pub is_tree : IsTreeOf (meant s.rows.now.tree.now.checked) (tree_of s)
  pub few : length (items_in s) ≤ 2147483648
  pub pass_known : found.pass < length s.passes.now
  pub pass_is : found.pass ≡ (item_in s number).pass
  pub kind_is : kind_of found.kind ≡ (pass_numbered s (item_in s number).pass).kind
  pub start_is : found.start ≡ start_in s (item_in s number).pass
  pub known : found.node < size (tree_of s)
  pub node_is : node_at (tree_of s) found.node ≡ (item_in s number).first
