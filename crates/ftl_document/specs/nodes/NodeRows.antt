-- The rows and the inputs of a written document's nodes, node by node in the order of the text, in which each node's
-- number is how many nodes come before it.
use Rattle.std.specs.Prelude.{ℕ, suc, ◌+◌, List, [], ◌∷◌, ◌++◌, ℤ}
use Rattle.ftl_grammar.specs.declared.syntax.rules.Grammar.{Grammar}
use Rattle.ftl_document.specs.syntax.Sizes.{nodes_in_fields, nodes_in_list}
use Rattle.ftl_document.specs.syntax.Written.{WrittenFields, WrittenNode, WrittenNodes, list_field, no_fields, no_nodes}
use Rattle.ftl_document.specs.syntax.Written.{node_and, node_field, number_field}
use Rattle.ftl_document.specs.faults.DocumentTree.{inputs_in}
use Rattle.ftl_document.specs.faults.Nodes.{child_number, class_number}
use Rattle.ftl_tree.specs.declared.rows.row.NodeRow.{NodeRow}

-- the row of a node of this class, which is this kid of this child of the node `parent`
abbrev pub node_row : (class parent child kid : ℕ) → NodeRow
node_row k n c i = record { class = k; parent = n; place = record { child = c; kid = i } }

abbrev mutual
  -- the rows of the nodes in these fields of the node `parent` of this class, where so many nodes come before them
  pub node_rows_in : Grammar → (class parent before : ℕ) → WrittenFields → List NodeRow
  node_rows_in g k n m no_fields = []
  node_rows_in g k n m (number_field name x later) = node_rows_in g k n m later
  node_rows_in g k n m (node_field name class fields later) =
      node_row (class_number g class) n (child_number g k name) 0
      ∷ (node_rows_in g (class_number g class) m (suc m) fields
      ++ node_rows_in g k n (suc m + nodes_in_fields fields) later)
  node_rows_in g k n m (list_field name nodes later) =
      node_rows_beside g n (child_number g k name) 0 m nodes ++ node_rows_in g k n (m + nodes_in_list nodes) later

  -- those of nodes beside each other in a list child, the first of which is this kid
  pub node_rows_beside : Grammar → (parent child kid before : ℕ) → WrittenNodes → List NodeRow
  node_rows_beside g n c i m no_nodes = []
  node_rows_beside g n c i m (node_and class fields later) =
      node_row (class_number g class) n c i
      ∷ (node_rows_in g (class_number g class) m (suc m) fields
      ++ node_rows_beside g n c (suc i) (suc m + nodes_in_fields fields) later)

-- the rows of all nodes of a document
abbrev pub node_rows_of : Grammar → WrittenNode → List NodeRow
node_rows_of g node =
    node_row (class_number g node.class) 0 0 0 ∷ node_rows_in g (class_number g node.class) 0 1 node.fields

abbrev mutual
  -- the inputs of the nodes in these fields
  pub node_inputs_in : Grammar → WrittenFields → List ℤ
  node_inputs_in g no_fields = []
  node_inputs_in g (number_field name x later) = node_inputs_in g later
  node_inputs_in g (node_field name class fields later) =
      inputs_in g (class_number g class) fields ++ (node_inputs_in g fields ++ node_inputs_in g later)
  node_inputs_in g (list_field name nodes later) = node_inputs_beside g nodes ++ node_inputs_in g later

  -- those of nodes beside each other
  pub node_inputs_beside : Grammar → WrittenNodes → List ℤ
  node_inputs_beside g no_nodes = []
  node_inputs_beside g (node_and class fields later) =
      inputs_in g (class_number g class) fields ++ (node_inputs_in g fields ++ node_inputs_beside g later)

-- the inputs of all nodes of a document
abbrev pub node_inputs_of : Grammar → WrittenNode → List ℤ
node_inputs_of g node = inputs_in g (class_number g node.class) node.fields ++ node_inputs_in g node.fields
