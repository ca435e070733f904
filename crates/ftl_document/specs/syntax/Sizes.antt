-- How many nodes a written document has, how many of them stand in one another, and how large its numbers are.
use Rattle.std.specs.Prelude.{ℕ, suc, ◌+◌, max}
use Rattle.ftl_model.specs.layout.TreeOf.{IsInput}
use Rattle.ftl_document.specs.declared.syntax.row.WrittenRow.{WrittenRow}
use Rattle.ftl_document.specs.declared.syntax.row.WrittenRow.TheVariants as rows
use Rattle.ftl_document.specs.syntax.Written.{WrittenFields, WrittenNode, WrittenNodes, no_fields, number_field}
use Rattle.ftl_document.specs.syntax.Written.{node_field, list_field, no_nodes, node_and}

abbrev mutual
  -- how many nodes stand in these fields
  pub nodes_in_fields : WrittenFields → ℕ
  nodes_in_fields no_fields = 0
  nodes_in_fields (number_field x n later) = nodes_in_fields later
  nodes_in_fields (node_field x class fields later) = suc (nodes_in_fields fields + nodes_in_fields later)
  nodes_in_fields (list_field x nodes later) = nodes_in_list nodes + nodes_in_fields later

  -- how many nodes these are, with those in them
  pub nodes_in_list : WrittenNodes → ℕ
  nodes_in_list no_nodes = 0
  nodes_in_list (node_and class fields later) = suc (nodes_in_fields fields + nodes_in_list later)

-- how many nodes a document has
abbrev pub node_count : WrittenNode → ℕ
node_count node = suc (nodes_in_fields node.fields)

abbrev mutual
  -- how many nodes stand in one another at most, in these fields
  pub levels_of_fields : WrittenFields → ℕ
  levels_of_fields no_fields = 0
  levels_of_fields (number_field x n later) = levels_of_fields later
  levels_of_fields (node_field x class fields later) = max (suc (levels_of_fields fields)) (levels_of_fields later)
  levels_of_fields (list_field x nodes later) = max (levels_of_list nodes) (levels_of_fields later)

  -- the same of nodes beside each other
  pub levels_of_list : WrittenNodes → ℕ
  levels_of_list no_nodes = 0
  levels_of_list (node_and class fields later) = max (suc (levels_of_fields fields)) (levels_of_list later)

-- how many nodes of a document stand in one another at most
abbrev pub levels_of : WrittenNode → ℕ
levels_of node = suc (levels_of_fields node.fields)

abbrev mutual
  -- all numbers in these fields are inputs where `greatest` is the greatest number: from minus it to it
  pub FieldsAreWithin : ℕ → WrittenFields → Type 0
  FieldsAreWithin greatest no_fields = Unit {0}
  FieldsAreWithin greatest (number_field x n later) = IsInput greatest n × FieldsAreWithin greatest later
  FieldsAreWithin greatest (node_field x class fields later) =
      FieldsAreWithin greatest fields × FieldsAreWithin greatest later
  FieldsAreWithin greatest (list_field x nodes later) = NodesAreWithin greatest nodes × FieldsAreWithin greatest later

  -- all numbers in these nodes are
  pub NodesAreWithin : ℕ → WrittenNodes → Type 0
  NodesAreWithin greatest no_nodes = Unit {0}
  NodesAreWithin greatest (node_and class fields later) =
      FieldsAreWithin greatest fields × NodesAreWithin greatest later

-- a row's number is one, if it has one
abbrev pub RowIsWithin : ℕ → WrittenRow → Type 0
RowIsWithin greatest (rows.Number x n) = IsInput greatest n
RowIsWithin greatest _ = Unit {0}
