-- A document that is written, as rows: those of what is open have nothing below them yet.
use Rattle.std.specs.Prelude.{ℕ, List, [], ◌∷◌, ◌++◌, length}
use Rattle.ftl_document.specs.declared.syntax.row.WrittenRow.{WrittenRow}
use Rattle.ftl_document.specs.declared.syntax.row.WrittenRow.TheVariants as rows
use Rattle.ftl_document.specs.syntax.Rows.{rows_of_fields, rows_of_nodes}
use Rattle.ftl_document.specs.syntax.Written.{NameText}
use Rattle.ftl_building.specs.building.PartDocument.{OpenList, OpenNode, PartDocument, document_node, field_list}
use Rattle.ftl_building.specs.building.PartDocument.{in_list, in_node, listed_node, single_node}

abbrev mutual
  -- the rows, where this node is open innermost
  pub rows_by_open : OpenNode → List WrittenRow
  rows_by_open (document_node class fields) = rows_of_fields fields
  rows_by_open (single_node around name class fields) =
      rows_by_open around ++ (rows.Single name class 0 ∷ rows_of_fields fields)
  rows_by_open (listed_node around class fields) = rows_by_list around ++ (rows.Kid class 0 ∷ rows_of_fields fields)

  -- the same of a list
  pub rows_by_list : OpenList → List WrittenRow
  rows_by_list (field_list around name nodes) = rows_by_open around ++ (rows.List name 0 ∷ rows_of_nodes nodes)

-- the rows of a document
abbrev pub rows_of : PartDocument → List WrittenRow
rows_of (in_node x) = rows_by_open x
rows_of (in_list x) = rows_by_list x

abbrev mutual
  -- where the rows of what is open stand, innermost first; the document's node has none
  pub places_by_open : OpenNode → List ℕ
  places_by_open (document_node class _) = []
  places_by_open (single_node around name class _) = length (rows_by_open around) ∷ places_by_open around
  places_by_open (listed_node around class _) = length (rows_by_list around) ∷ places_by_list around

  -- the same of a list
  pub places_by_list : OpenList → List ℕ
  places_by_list (field_list around name _) = length (rows_by_open around) ∷ places_by_open around

-- the places of a document's open rows
abbrev pub places_of : PartDocument → List ℕ
places_of (in_node x) = places_by_open x
places_of (in_list x) = places_by_list x

abbrev mutual
  -- the class of the document's node
  pub class_by_open : OpenNode → NameText
  class_by_open (document_node class _) = class
  class_by_open (single_node around name class _) = class_by_open around
  class_by_open (listed_node around class _) = class_by_list around

  -- the same of a list
  pub class_by_list : OpenList → NameText
  class_by_list (field_list around name _) = class_by_open around

-- the class of a document's node
abbrev pub class_of : PartDocument → NameText
class_of (in_node x) = class_by_open x
class_of (in_list x) = class_by_list x
