-- The tree of a document has as many nodes as the document, and as many of them in one another.
use Rattle.std.proofs.Common.{◌≡◌, ℕ, ◌+◌, max, refl, arith}
use Rattle.ftl_model.specs.layout.Tree.{Forest, depth, size}
use Rattle.ftl_grammar.specs.declared.syntax.rules.Grammar.{Grammar}
use Rattle.ftl_document.specs.syntax.Written.{WrittenFields, WrittenNode, WrittenNodes, list_field, no_fields, no_nodes}
use Rattle.ftl_document.specs.syntax.Written.{node_and, node_field, number_field}
use Rattle.ftl_document.specs.syntax.Sizes.{levels_of, levels_of_fields, levels_of_list, node_count, nodes_in_fields}
use Rattle.ftl_document.specs.syntax.Sizes.{nodes_in_list}
use Rattle.ftl_document.specs.faults.DocumentTree.{tree_of, trees_before, trees_in}
use Rattle.ftl_document.specs.faults.Nodes.{child_number, class_number}

mutual
  size_in : (g : Grammar) (k : ℕ) (f : WrittenFields) → size (trees_in g k f) ≡ nodes_in_fields f
  size_in g k no_fields = refl
  size_in g k (number_field x n later) = size_in g k later
  size_in g k (node_field x class fields later) =
      let inside = size_in g (class_number g class) fields in
      let behind = size_in g k later in
      omega (arith, inside, behind)
  size_in g k (list_field x nodes later) =
      let all = size_before g (child_number g k x) nodes (trees_in g k later) in
      let behind = size_in g k later in
      omega (arith, all, behind)

  size_before : (g : Grammar) (c : ℕ) (nodes : WrittenNodes) (later : Forest)
      → size (trees_before g c nodes later) ≡ nodes_in_list nodes + size later
  size_before g c no_nodes later = omega arith
  size_before g c (node_and class fields nodes) later =
      let inside = size_in g (class_number g class) fields in
      let behind = size_before g c nodes later in
      omega (arith, inside, behind)

mutual
  depth_in : (g : Grammar) (k : ℕ) (f : WrittenFields) → depth (trees_in g k f) ≡ levels_of_fields f
  depth_in g k no_fields = refl
  depth_in g k (number_field x n later) = depth_in g k later
  depth_in g k (node_field x class fields later) =
      let inside = depth_in g (class_number g class) fields in
      let behind = depth_in g k later in
      omega (arith, inside, behind)
  depth_in g k (list_field x nodes later) =
      let all = depth_before g (child_number g k x) nodes (trees_in g k later) in
      let behind = depth_in g k later in
      omega (arith, all, behind)

  depth_before : (g : Grammar) (c : ℕ) (nodes : WrittenNodes) (later : Forest)
      → depth (trees_before g c nodes later) ≡ max (levels_of_list nodes) (depth later)
  depth_before g c no_nodes later = omega arith
  depth_before g c (node_and class fields nodes) later =
      let inside = depth_in g (class_number g class) fields in
      let behind = depth_before g c nodes later in
      omega (arith, inside, behind)

pub size-tree_of : (g : Grammar) (node : WrittenNode) → size (tree_of g node) ≡ node_count node
size-tree_of g node = let inside = size_in g (class_number g node.class) node.fields in omega (arith, inside)

pub depth-tree_of : (g : Grammar) (node : WrittenNode) → depth (tree_of g node) ≡ levels_of node
depth-tree_of g node = let inside = depth_in g (class_number g node.class) node.fields in omega (arith, inside)
