-- Fields that are made for a tree are those of a tree.
use Rattle.std.proofs.Common.{◌≡◌, ◌<◌, List, ℕ, ℤ, arith, get_or, length, map, subst, sym}
use Rattle.std.specs.List.{All}
use Rattle.std.proofs.lemmas.List.Elements.{All-from_get_or, All-get_or}
use Rattle.ftl_model.specs.layout.AttributeGrammar.{AttributeGrammar}
use Rattle.ftl_model.specs.layout.Tree.{Forest}
use Rattle.ftl_tree.specs.declared.rows.row.NodeRow.{NodeRow}
use Rattle.ftl_tree.specs.rows.ClassRows.{AreAttributePlaces, AreClassRows, AreInputCounts}
use Rattle.ftl_tree.specs.rows.KidRuns.{HasRuns}
use Rattle.ftl_tree.specs.rows.Rows.{AreNodesOf, AreRowsOf, AreTreeRows, attribute_width, input_width, sizes_of, starts_by}
use Rattle.ftl_tree.proofs.rows.KidRows.{length_rows}
use Rattle.ftl_tree.proofs.rows.Shapes.{flat, kept_back}
use Rattle.ftl_tree.proofs.rows.Starts.{length-starts}
use Rattle.ftl_tree.specs.trees.FlatTree.{IsFlat, grammar_inside, tree_inside}
use Rattle.ftl_tree.specs.declared.trees.tree.Tree.TheInside.{Inside}

-- rows with sizes
pub are_rows : (g : AttributeGrammar) (t : Forest) (rows : List NodeRow) (sizes : List ℕ) (inputs : List ℤ) → AreNodesOf g t rows inputs → sizes ≡ sizes_of t → AreRowsOf g t rows sizes inputs
are_rows g t rows sizes inputs n s = record {
  is_tree = n.0.is_tree;
  rows_are = n.0.rows_are;
  sizes_are = s;
  inputs_are = n.1;
  few_nodes = n.0.few_nodes;
  few_instances = n.0.few_instances;
}

-- the tree that the rows are
pub tree_is : (i : Inside) (t : Forest) → AreNodesOf (grammar_inside i) t i.rows.items i.inputs.items → i.sizes.items ≡ sizes_of t → tree_inside i ≡ t
tree_is i t n s = kept_back (grammar_inside i) t i.rows.items i.sizes.items i.inputs.items (are_rows (grammar_inside i) t i.rows.items i.sizes.items i.inputs.items n s)

pub made : (i : Inside) (t : Forest) → AreNodesOf (grammar_inside i) t i.rows.items i.inputs.items → i.sizes.items ≡ sizes_of t
    → AreClassRows (grammar_inside i) i.classes.items → AreInputCounts (grammar_inside i) i.input_counts.items
    → i.first_instances.items ≡ starts_by (attribute_width (grammar_inside i)) i.rows.items
    → i.first_inputs.items ≡ starts_by (input_width (grammar_inside i)) i.rows.items
    → i.slots.items ≡ starts_by (grammar_inside i).child_count i.rows.items
    → HasRuns (grammar_inside i) t i.slots.items i.run_starts.items i.kids.items
    → i.kid_first_instances.items ≡ map (λ (kid : ℕ). get_or i.first_instances.items kid 0) i.kids.items
    → AreAttributePlaces (grammar_inside i) i.attribute_places.items → IsFlat i
made i t n s classes counts instances inputs slots runs kid_firsts places = record {
  rows = flat (grammar_inside i) t i.rows.items i.sizes.items i.inputs.items (are_rows (grammar_inside i) t i.rows.items i.sizes.items i.inputs.items n s);
  classes = classes;
  input_counts = counts;
  first_instances = instances;
  first_inputs = inputs;
  slots = slots;
  runs = subst (λ (f : Forest). HasRuns (grammar_inside i) f i.slots.items i.run_starts.items i.kids.items) (sym (tree_is i t n s)) runs;
  kid_first_instances = kid_firsts;
  attribute_places = places;
}

-- kids that are nodes have first instances
pub kids_within : (g : AttributeGrammar) (t : Forest) (rows : List NodeRow) (starts kids : List ℕ) → AreTreeRows g t rows
    → starts ≡ starts_by (attribute_width g) rows → All (λ (kid : ℕ). kid < length rows) kids
    → All (λ (kid : ℕ). kid < length starts) kids
kids_within g t rows starts kids are is known =
    All-from_get_or (λ (kid : ℕ). kid < length starts) kids 0 (λ i h.
    let below = All-get_or (λ (kid : ℕ). kid < length rows) kids i 0 h known in
    omega (
      arith,
      below,
      length_rows g t rows are,
      length-starts g t rows (attribute_width g) starts are.is_tree are.rows_are is,
    ))
