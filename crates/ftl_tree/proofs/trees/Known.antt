-- What the fields of a tree say of the tree.
use Rattle.std.proofs.Common.{◌≡◌, ℕ, suc, ◌+◌, ◌<◌, ◌≤◌, length, get_or, map, sym, ◌∙◌, subst, arith, Contains}
use Rattle.std.proofs.lemmas.List.{get_or_default}
use Rattle.ftl_model.specs.lists.Lists.{place_in}
use Rattle.ftl_model.proofs.lists.Places.{place_within}
use Rattle.ftl_model.specs.layout.AttributeGrammar.{attributes_of}
use Rattle.ftl_model.specs.layout.Path.{class_at, node_at, size_at}
use Rattle.ftl_model.specs.layout.Table.{first_instance}
use Rattle.ftl_model.specs.layout.Tree.{size}
use Rattle.ftl_order.proofs.orders.Kids.{class_known}
use Rattle.ftl_deps.specs.reads.Meant.{meant}
use Rattle.ftl_tree.specs.rows.ClassRows.{AreAttributePlaces, AreClassRows, AreInputCounts}
use Rattle.ftl_tree.specs.rows.ClassRows.{IsClassRow, no_attributes}
use Rattle.ftl_tree.specs.rows.KidRuns.{HasRuns}
use Rattle.ftl_tree.specs.rows.Rows.{AreRowsOf, attribute_width, input_width, row_of, starts_by}
use Rattle.ftl_tree.specs.declared.rows.class_row.ClassRow.{ClassRow}
use Rattle.ftl_tree.proofs.rows.Access.{has_at, length-by_node}
use Rattle.ftl_tree.proofs.rows.ClassPlaces.{attribute_known}
use Rattle.ftl_tree.proofs.rows.Starts.{first_instance_at, last_instance, length-starts, room_at}
use Rattle.ftl_tree.specs.trees.CheckedTree.{CheckedTree}
use Rattle.ftl_tree.specs.trees.FlatTree.{IsFlat, checked_tree_inside}
use Rattle.ftl_tree.specs.declared.trees.tree.Tree.TheInside.{Inside}

-- the fields are those of this tree
pub record Known (i : Inside) (t : CheckedTree) : Type 0 where
  pub rows : AreRowsOf (meant t.checked) t.tree i.rows.items i.sizes.items i.inputs.items
  pub classes : AreClassRows (meant t.checked) i.classes.items
  pub input_counts : AreInputCounts (meant t.checked) i.input_counts.items
  pub first_instances : i.first_instances.items ≡ starts_by (attribute_width (meant t.checked)) i.rows.items
  pub first_inputs : i.first_inputs.items ≡ starts_by (input_width (meant t.checked)) i.rows.items
  pub slots : i.slots.items ≡ starts_by (meant t.checked).child_count i.rows.items
  pub runs : HasRuns (meant t.checked) t.tree i.slots.items i.run_starts.items i.kids.items
  pub kid_first_instances :
      i.kid_first_instances.items ≡ map (λ (kid : ℕ). get_or i.first_instances.items kid 0) i.kids.items
  pub attribute_places : AreAttributePlaces (meant t.checked) i.attribute_places.items

pub known : (i : Inside) (t : CheckedTree) → IsFlat i → checked_tree_inside i ≡ t → Known i t
known i t h is =
    subst (λ (t : CheckedTree). Known i t) is (record {
      rows = h.rows;
      classes = h.classes;
      input_counts = h.input_counts;
      first_instances = h.first_instances;
      first_inputs = h.first_inputs;
      slots = h.slots;
      runs = h.runs;
      kid_first_instances = h.kid_first_instances;
      attribute_places = h.attribute_places;
    })

module _ (i : Inside) (t : CheckedTree) (k : Known i t) where
  pub length_rows : length i.rows.items ≡ size t.tree
  length_rows = length-by_node (meant t.checked) t.tree (row_of t.tree) i.rows.items k.rows.is_tree k.rows.rows_are

  pub length_sizes : length i.sizes.items ≡ size t.tree
  length_sizes = length-by_node (meant t.checked) t.tree (size_at t.tree) i.sizes.items k.rows.is_tree k.rows.sizes_are

  pub length_first_instances : length i.first_instances.items ≡ suc (size t.tree)
  length_first_instances = length-starts (meant t.checked) t.tree i.rows.items (attribute_width (meant t.checked)) i.first_instances.items k.rows.is_tree k.rows.rows_are k.first_instances

  pub length_first_inputs : length i.first_inputs.items ≡ suc (size t.tree)
  length_first_inputs = length-starts (meant t.checked) t.tree i.rows.items (input_width (meant t.checked)) i.first_inputs.items k.rows.is_tree k.rows.rows_are k.first_inputs

  pub length_slots : length i.slots.items ≡ suc (size t.tree)
  length_slots = length-starts (meant t.checked) t.tree i.rows.items (meant t.checked).child_count i.slots.items k.rows.is_tree k.rows.rows_are k.slots

  pub class_within : (n : ℕ) → n < size t.tree → class_at t.tree (node_at t.tree n) < (meant t.checked).class_count
  class_within n h = class_known (meant t.checked) t.tree k.rows.is_tree (node_at t.tree n) (has_at (meant t.checked) t.tree n k.rows.is_tree h)

  -- the row of a class
  pub class_row : (class : ℕ) (row d : ClassRow) → class < (meant t.checked).class_count → row ≡ get_or i.classes.items class d
      → IsClassRow (meant t.checked) class row
  class_row class row d h is =
      subst (IsClassRow (meant t.checked) class) (sym (is ∙ get_or_default i.classes.items class d no_attributes (omega (arith, h, k.classes.count))))
      (k.classes.each class h)

  -- the first instance of a node
  pub first_is : (n d : ℕ) → n < size t.tree → get_or i.first_instances.items n d ≡ first_instance (meant t.checked) t.tree (node_at t.tree n)
  first_is n d h = first_instance_at (meant t.checked) t.tree i.rows.items i.first_instances.items n d k.rows.is_tree k.rows.rows_are k.first_instances h

  -- an attribute of a class has a place
  pub place_known : (class a : ℕ) → class < (meant t.checked).class_count
      → Contains (attributes_of (meant t.checked) class) a → a < length i.attribute_places.items
  place_known class a h has =
      let row = get_or i.classes.items class no_attributes in
      omega (
        arith,
        attribute_known (meant t.checked) class row (k.classes.each class h) a has,
        k.attribute_places.length_is,
      )

  pub place_is : (class a d : ℕ) → class < (meant t.checked).class_count
      → Contains (attributes_of (meant t.checked) class) a
      → get_or i.attribute_places.items a d ≡ place_in (attributes_of (meant t.checked) class) a
  place_is class a d h has =
      get_or_default i.attribute_places.items a d 0 (place_known class a h has)
      ∙ k.attribute_places.each class a h has

  -- and all of a node's come before the end
  pub first_room : (n : ℕ) → n < size t.tree
      → first_instance (meant t.checked) t.tree (node_at t.tree n) + attribute_width (meant t.checked) (class_at t.tree (node_at t.tree n)) ≤ 33554432
  first_room n h =
      omega (
        arith,
        first_is n 0 h,
        room_at (meant t.checked) t.tree i.rows.items (attribute_width (meant t.checked)) i.first_instances.items n 0 k.rows.is_tree k.rows.rows_are k.first_instances h,
        last_instance (meant t.checked) t.tree i.rows.items i.first_instances.items 0 k.rows.is_tree k.rows.rows_are k.first_instances,
        k.rows.few_instances,
      )

  pub instance_room : (n a : ℕ) → n < size t.tree
      → Contains (attributes_of (meant t.checked) (class_at t.tree (node_at t.tree n))) a
      → first_instance (meant t.checked) t.tree (node_at t.tree n)
      + place_in (attributes_of (meant t.checked) (class_at t.tree (node_at t.tree n))) a < 33554432
  instance_room n a h has =
      omega (
        arith,
        place_within (attributes_of (meant t.checked) (class_at t.tree (node_at t.tree n))) a has,
        first_room n h,
      )
