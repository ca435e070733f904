-- A tree of a grammar in flat rows: a row for each node in preorder, with the size of its tree, and the inputs of all
-- nodes one after another.
use Rattle.std.specs.Prelude.{◌≡◌, ℕ, ◌+◌, ◌-◌, ◌≤◌, List, [], ◌∷◌, length, map, take, drop, ℤ}
use Rattle.std.specs.List.{flat_map}
use Rattle.ftl_model.specs.layout.Limits.{most_instances, most_nodes}
use Rattle.ftl_model.specs.layout.AttributeGrammar.{AttributeGrammar, attributes_of, class_inputs}
use Rattle.ftl_model.specs.layout.Path.{Path, child_at, class_at, down, inputs_at, kid_at, number_of, preorder, size_at, top}
use Rattle.ftl_model.specs.layout.Shape.{Shape, forest_of, shape}
use Rattle.ftl_model.specs.layout.Table.{instance_count}
use Rattle.ftl_model.specs.layout.Tree.{Forest, size}
use Rattle.ftl_model.specs.layout.TreeOf.{IsTreeOf}
use Rattle.ftl_tree.specs.declared.rows.row.NodeRow.{NodeRow}

-- ---- the rows of a tree

-- the number of a node's parent; 0 for the root
abbrev pub parent_number : Forest → Path → ℕ
parent_number t top = 0
parent_number t (down c k p) = number_of t p

-- the row of a node
abbrev pub row_of : Forest → Path → NodeRow
row_of t p =
    record {
      class = class_at t p;
      parent = parent_number t p;
      place = record { child = child_at p; kid = kid_at p };
    }

-- the rows of all nodes, in preorder
abbrev pub rows_of : Forest → List NodeRow
rows_of t = map (row_of t) (preorder t)

-- how many nodes the tree at each node has
abbrev pub sizes_of : Forest → List ℕ
sizes_of t = map (size_at t) (preorder t)

-- the inputs of all nodes
abbrev pub all_inputs : Forest → List ℤ
all_inputs t = flat_map (inputs_at t) (preorder t)

-- ---- the tree of rows

-- how many attributes and how many inputs a node of a class has
abbrev pub attribute_width : AttributeGrammar → (class : ℕ) → ℕ
attribute_width g k = length (attributes_of g k)

abbrev pub input_width : AttributeGrammar → (class : ℕ) → ℕ
input_width g k = length (class_inputs g k)

-- the nodes with their inputs and with how many nodes stand below each
abbrev pub shapes_of : AttributeGrammar → List NodeRow → (sizes : List ℕ) → (inputs : List ℤ) → List Shape
shapes_of g [] sizes inputs = []
shapes_of g (row ∷ rows) [] inputs = []
shapes_of g (row ∷ rows) (n ∷ sizes) inputs =
    shape row.class row.place.child (take (input_width g row.class) inputs) (n - 1)
    ∷ shapes_of g rows sizes (drop (input_width g row.class) inputs)

-- the tree that has these rows
abbrev pub tree_of : AttributeGrammar → List NodeRow → (sizes : List ℕ) → (inputs : List ℤ) → Forest
tree_of g rows sizes inputs = forest_of (shapes_of g rows sizes inputs)

-- the rows, the sizes and the inputs are those of this tree, which is one of the grammar and within the limits
pub record AreRowsOf (g : AttributeGrammar) (t : Forest) (rows : List NodeRow) (sizes : List ℕ) (inputs : List ℤ) : Type 0 where
  pub is_tree : IsTreeOf g t
  pub rows_are : rows ≡ rows_of t
  pub sizes_are : sizes ≡ sizes_of t
  pub inputs_are : inputs ≡ all_inputs t
  pub few_nodes : size t ≤ most_nodes
  pub few_instances : instance_count g t ≤ most_instances

-- ---- where the attributes, inputs and children of each node begin

-- the sums of the first numbers of a list: of none, of one, and so on up to all
abbrev pub sums_from : ℕ → List ℕ → List ℕ
sums_from n [] = n ∷ []
sums_from n (x ∷ xs) = n ∷ sums_from (n + x) xs

-- where each node begins in a list in which a node of a class has so many entries, and where the last one ends
abbrev pub starts_by : (class_width : ℕ → ℕ) → List NodeRow → List ℕ
starts_by width rows = sums_from 0 (map (λ row. width row.class) rows)

-- ---- what a tree is built from

-- the rows are those of this tree, which is one of the grammar and within the limits
pub record AreTreeRows (g : AttributeGrammar) (t : Forest) (rows : List NodeRow) : Type 0 where
  pub is_tree : IsTreeOf g t
  pub rows_are : rows ≡ rows_of t
  pub few_nodes : size t ≤ most_nodes
  pub few_instances : instance_count g t ≤ most_instances

-- the rows are those of some tree of the grammar
abbrev pub IsPreorder : AttributeGrammar → List NodeRow → Type 0
IsPreorder g rows = (t : Forest) × AreTreeRows g t rows

-- the rows and the inputs are those of this tree
abbrev pub AreNodesOf : AttributeGrammar → Forest → List NodeRow → (inputs : List ℤ) → Type 0
AreNodesOf g t rows inputs = AreTreeRows g t rows × (inputs ≡ all_inputs t)

-- where the tree of each node ends
abbrev pub ends_of : Forest → List ℕ
ends_of t = map (λ p. number_of t p + size_at t p) (preorder t)
