-- An item that was found by its number, in the words of plain trees and passes.
use Rattle.std.proofs.Common.{◌≡◌, ℕ, ◌<◌, Bool, if◌then◌else◌, get_or, length, sym, ◌∙◌, ap, subst}
use Rattle.ftl_items.specs.numbers.ItemNumbers.{item_above_by, items_before_by}
use Rattle.ftl_model.specs.layout.Path.{Path, node_at}
use Rattle.ftl_model.specs.layout.Tree.{size}
use Rattle.ftl_order.specs.orders.Schedule.{bottomup}
use Rattle.ftl_schedule.specs.declared.syntax.kind.PassKind.{PassKind}
use Rattle.ftl_schedule.specs.stages.Stages.{kind_of}
use Rattle.ftl_tree.specs.trees.CheckedTree.{CheckedTree}
use Rattle.ftl_cursors.specs.items.HostRows.{AreCutAs}
use Rattle.ftl_cursors.specs.items.RowsCut.{is_whole_in}
use Rattle.ftl_cursors.specs.items.StageItems.{IsFound, cuts_in, item_in, kids_of, passes_in, tree_in, tree_of}
use Rattle.ftl_cursors.specs.declared.items.columns.ItemRows.{ItemRows}
use Rattle.ftl_cursors.specs.declared.items.view.FoundItem.{FoundItem}
use Rattle.ftl_cursors.specs.declared.items.view.StageItems.{StageItems}
use Rattle.ftl_cursors.proofs.items.StageFacts.{Known}

-- it is of a pass of the kind that was found
pub known_in : (s : StageItems) (i : ℕ) (f : FoundItem) (kind : PassKind) → f.kind ≡ kind → IsFound s i f
    → Known (length (passes_in s)) (cuts_in s) (tree_of s) i (kind_of kind) f.start f.node
known_in s i f kind e h = record {
  kind_is = ap kind_of (sym e) ∙ h.kind_is;
  start_is = h.start_is;
  known = h.known;
  node_is = h.node_is;
}

-- the rows of its pass
module _ (s : StageItems) (i : ℕ) (f : FoundItem) (is : IsFound s i f) (rows : ItemRows)
    (cut : AreCutAs s.rows.now (cuts_in s f.pass) rows) where
  -- what is one item in it
  abbrev pub whole : Path → Bool
  whole = (cuts_in s (item_in s i).pass).is_whole

  -- is what the rows have
  pub whole_is : is_whole_in rows ≡ whole
  whole_is = cut.whole ∙ ap (λ m. (cuts_in s m).is_whole) is.pass_is

  -- what is told by the rows is so of the pass and the tree
  pub told : {X : Type 0} (tell : (Path → Bool) → CheckedTree → X)
      → tell (is_whole_in rows) rows.tree.now ≡ tell whole s.rows.now.tree.now
  told tell = ap (tell (is_whole_in rows)) cut.tree ∙ ap (λ w. tell w s.rows.now.tree.now) whole_is

  -- and what holds of these holds of the rows
  pub holds : (P : (Path → Bool) → CheckedTree → Type 0) → P whole s.rows.now.tree.now
      → P (is_whole_in rows) rows.tree.now
  holds P h = subst (P (is_whole_in rows)) (sym cut.tree) (subst (λ w. P w s.rows.now.tree.now) (sym whole_is) h)

  -- so they have the node
  pub node_known : f.node < size (tree_in rows)
  node_known = holds (λ w t. f.node < size t.tree) is.known

  -- and tell how many items begin at its kids
  pub below_is : (if is_whole_in rows (node_at (tree_in rows) f.node) then 0 else length (kids_of rows.tree.now f.node))
      ≡ (if whole (node_at (tree_of s) f.node) then 0 else length (kids_of s.rows.now.tree.now f.node))
  below_is = told (λ w t. if w (node_at t.tree f.node) then 0 else length (kids_of t f.node))

  -- how many items begin before one of these
  pub before_is : (place : ℕ)
      → items_before_by (is_whole_in rows) (tree_in rows) (get_or (kids_of rows.tree.now f.node) place 0)
      ≡ items_before_by whole (tree_of s) (get_or (kids_of s.rows.now.tree.now f.node) place 0)
  before_is place = told (λ w t. items_before_by w t.tree (get_or (kids_of t f.node) place 0))

  -- and the item that begins at its parent
  pub above_is : (start : ℕ)
      → item_above_by bottomup (is_whole_in rows) (tree_in rows) start (node_at (tree_in rows) f.node)
      ≡ item_above_by bottomup whole (tree_of s) start (node_at (tree_of s) f.node)
  above_is start = told (λ w t. item_above_by bottomup w t.tree start (node_at t.tree f.node))
