-- A written document as one list of rows, in the order of its text: what is written inside a row stands right behind it.
use Rattle.std.specs.Prelude.{List, [], ◌∷◌, ◌++◌, length}
use Rattle.ftl_document.specs.declared.syntax.row.WrittenRow.{WrittenRow}
use Rattle.ftl_document.specs.declared.syntax.row.WrittenRow.TheVariants as rows
use Rattle.ftl_document.specs.syntax.Written.{NameText, WrittenFields, WrittenNodes, no_fields, number_field}
use Rattle.ftl_document.specs.syntax.Written.{node_field, list_field, no_nodes, node_and}

abbrev mutual
  -- the rows of some fields
  pub rows_of_fields : WrittenFields → List WrittenRow
  rows_of_fields no_fields = []
  rows_of_fields (number_field x n later) = rows.Number x n ∷ rows_of_fields later
  rows_of_fields (node_field x class fields later) =
      rows.Single x class (length (rows_of_fields fields)) ∷ (rows_of_fields fields ++ rows_of_fields later)
  rows_of_fields (list_field x nodes later) =
      rows.List x (length (rows_of_nodes nodes)) ∷ (rows_of_nodes nodes ++ rows_of_fields later)

  -- the rows of the nodes in a list
  pub rows_of_nodes : WrittenNodes → List WrittenRow
  rows_of_nodes no_nodes = []
  rows_of_nodes (node_and class fields later) =
      rows.Kid class (length (rows_of_fields fields)) ∷ (rows_of_fields fields ++ rows_of_nodes later)

-- what is kept of a document: the class of its node, and the rows of that node's fields
pub record DocumentRows : Type 0 where
  pub class : NameText
  pub rows : List WrittenRow

-- the class, and these rows
abbrev pub document_rows : NameText → List WrittenRow → DocumentRows
document_rows class rows = record { class = class; rows = rows }
