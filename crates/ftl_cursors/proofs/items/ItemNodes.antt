-- The nodes of an item by their numbers, and the classes that these have.
use Rattle.std.proofs.Common.{◌≡◌, ℕ, ◌+◌, ◌<◌, ◌≤◌, Bool, List, get_or, length, map, Contains, sym, ◌∙◌, ap, subst, arith}
use Rattle.std.specs.List.{range_with_len}
use Rattle.std.proofs.lemmas.List.Elements.{Contains-get_or}
use Rattle.ftl_model.proofs.lists.Elements.{in_range_from}
use Rattle.ftl_model.proofs.lists.Rising.{in_map}
use Rattle.ftl_model.specs.layout.AttributeGrammar.{AttributeGrammar}
use Rattle.ftl_model.specs.layout.Path.{Has, Path, class_at, node_at, number_of, top}
use Rattle.ftl_model.specs.layout.Tree.{Forest, size}
use Rattle.ftl_model.specs.layout.TreeOf.{IsTreeOf}
use Rattle.ftl_model.proofs.layout.Standing.{node_at-number_of, number_of-lt}
use Rattle.ftl_order.specs.orders.Schedule.{PassKind as OrderKind}
use Rattle.ftl_order.proofs.orders.Kids.{root_there}
use Rattle.ftl_items.specs.stage_items.Cut.{PassCut, nodes_by, tops_by}
use Rattle.ftl_schedule.specs.declared.syntax.kind.PassKind.{PassKind}
use Rattle.ftl_schedule.specs.stages.Stages.{kind_of}
use Rattle.ftl_tree.specs.trees.CheckedTree.{CheckedTree}
use Rattle.ftl_tree.proofs.rows.Access.{size-one}
use Rattle.ftl_cursors.specs.classes.ClassSets.{HasClass, HasClassesBetween, HasClassesOf}
use Rattle.ftl_cursors.specs.items.HostRows.{AreCutAs}
use Rattle.ftl_cursors.specs.items.RowsCut.{is_whole_in}
use Rattle.ftl_cursors.specs.items.StageItems.{tops_of, tree_in}
use Rattle.ftl_cursors.specs.visits.ItemSteps.{node_count_by}
use Rattle.ftl_cursors.specs.declared.items.by_host.TreeRows.{TreeRows}
use Rattle.ftl_cursors.specs.declared.items.columns.ItemRows.{ItemRows}
use Rattle.ftl_cursors.proofs.items.RowFacts.{length-nodes_by}
use Rattle.ftl_cursors.proofs.items.Starts.{top_there}
use Rattle.ftl_cursors.proofs.visits.ItemLemmas.{nodes_are, nodes_within}

-- the node at which an item of a pass begins
pub record BeginsAt (t : Forest) (p : Path) (n : ℕ) : Type 0 where
  pub there : Has t p
  pub known : n < size t
  pub node_is : node_at t n ≡ p

pub begins_at : (g : AttributeGrammar) (t : Forest) → IsTreeOf g t → (is_whole : Path → Bool) (kind : OrderKind) (i n : ℕ)
    → i < length (tops_by kind is_whole t) → n ≡ number_of t (get_or (tops_by kind is_whole t) i top)
    → BeginsAt t (get_or (tops_by kind is_whole t) i top) n
begins_at g t fits is_whole kind i n below is =
    let p = get_or (tops_by kind is_whole t) i top in
    let there = top_there kind is_whole t p (root_there g t fits) (Contains-get_or (tops_by kind is_whole t) i top below) in
    let less = number_of-lt t p there in
    let one = size-one g t fits in
    record {
      there = there;
      known = omega (arith, is, less, one);
      node_is = ap (node_at t) is ∙ node_at-number_of t p there;
    }

-- the nodes of the item that begins at a node are so many from this number on
pub record IsRangeOf (is_whole : Path → Bool) (t : Forest) (p : Path) (first count : ℕ) : Type 0 where
  pub there : Has t p
  pub first_is : first ≡ number_of t p
  pub count_is : count ≡ node_count_by is_whole t p
  pub within : first + count ≤ size t

pub range_of : (g : AttributeGrammar) (t : Forest) → IsTreeOf g t → (is_whole : Path → Bool) (p : Path)
    (first count : ℕ) → BeginsAt t p first → first ≡ number_of t p
    → count ≡ length (nodes_by is_whole t (node_at t first)) → IsRangeOf is_whole t p first count
range_of g t fits is_whole p first count begins first_is long =
    let count_is : count ≡ node_count_by is_whole t p =
    long ∙ ap (λ q. length (nodes_by is_whole t q)) begins.node_is ∙ length-nodes_by is_whole t p in
    record {
      there = begins.there;
      first_is = first_is;
      count_is = count_is;
      within =
          (let within = nodes_within g t fits is_whole p begins.there in
          omega (arith, within, first_is, count_is));
    }

-- a set that has their classes has those of the item
pub classes_of_nodes : (is_whole : Path → Bool) (t : Forest) (p : Path) (first count : ℕ)
    → IsRangeOf is_whole t p first count → (set : ℕ) → HasClassesBetween set t first (first + count)
    → HasClassesOf set t (nodes_by is_whole t p)
classes_of_nodes is_whole t p first count is set has q among =
    let number = number_of t p in
    let long = node_count_by is_whole t p in
    let m =
    in_map (node_at t) (range_with_len number long) q
    (subst (λ (ps : List Path). Contains ps q) (sym (nodes_are is_whole t p is.there)) among) in
    let lies = in_range_from number long m.from m.there in
    let low = lies.0 in
    let high = lies.1 in
    let first_is = is.first_is in
    let count_is = is.count_is in
    subst (λ r. HasClass set (class_at t r)) m.is
    (has m.from (omega (arith, low, first_is)) (omega (arith, high, first_is, count_is)))

-- what the rows of a pass tell of an item's classes is so of the pass
pub classes_by_rows : (rows : TreeRows) (cut : PassCut) (found : ItemRows) → AreCutAs rows cut found
    → (kind : PassKind) → cut.kind ≡ kind_of kind → (j set : ℕ)
    → HasClassesOf set (tree_in found) (nodes_by (is_whole_in found) (tree_in found) (get_or (tops_of found kind) j top))
    → HasClassesOf set rows.tree.now.tree
    (nodes_by cut.is_whole rows.tree.now.tree (get_or (tops_by cut.kind cut.is_whole rows.tree.now.tree) j top))
classes_by_rows rows cut found is kind same j set has =
    let t = rows.tree.now.tree in
    let by_tree =
    subst
    (λ (u : CheckedTree). HasClassesOf set u.tree
    (nodes_by (is_whole_in found) u.tree (get_or (tops_by (kind_of kind) (is_whole_in found) u.tree) j top)))
    is.tree has in
    let by_cut =
    subst
    (λ (w : Path → Bool). HasClassesOf set t (nodes_by w t (get_or (tops_by (kind_of kind) w t) j top)))
    is.whole by_tree in
    subst
    (λ (k : OrderKind). HasClassesOf set t
    (nodes_by cut.is_whole t (get_or (tops_by k cut.is_whole t) j top)))
    (sym same) by_cut
