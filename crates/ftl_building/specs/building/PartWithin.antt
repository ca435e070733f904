-- Documents that are written, all of whose numbers are within a width.
use Rattle.std.specs.Prelude.{ℕ}
use Rattle.ftl_document.specs.syntax.Sizes.{FieldsAreWithin, NodesAreWithin}
use Rattle.ftl_building.specs.building.PartDocument.{OpenList, OpenNode, PartDocument, document_node, field_list}
use Rattle.ftl_building.specs.building.PartDocument.{in_list, in_node, listed_node, single_node}

abbrev mutual
  -- all numbers in an open node, and in what is open around it, are inputs where this is the greatest number
  pub NodeIsWithin : (greatest : ℕ) → OpenNode → Type 0
  NodeIsWithin greatest (document_node class fields) = FieldsAreWithin greatest fields
  NodeIsWithin greatest (single_node around name class fields) =
      NodeIsWithin greatest around × FieldsAreWithin greatest fields
  NodeIsWithin greatest (listed_node around class fields) =
      ListIsWithin greatest around × FieldsAreWithin greatest fields

  -- the same of an open list
  pub ListIsWithin : (greatest : ℕ) → OpenList → Type 0
  ListIsWithin greatest (field_list around name nodes) = NodeIsWithin greatest around × NodesAreWithin greatest nodes

-- all numbers of a document are
abbrev pub PartIsWithin : (greatest : ℕ) → PartDocument → Type 0
PartIsWithin greatest (in_node x) = NodeIsWithin greatest x
PartIsWithin greatest (in_list x) = ListIsWithin greatest x
