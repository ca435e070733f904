-- What each call adds to a document that is written.
use Rattle.std.specs.Prelude.{ℤ}
use Rattle.ftl_document.specs.syntax.Written.{NameText, WrittenFields, WrittenNodes, list_field, no_fields, no_nodes}
use Rattle.ftl_document.specs.syntax.Written.{node_and, node_field, number_field}
use Rattle.ftl_building.specs.building.PartDocument.{OpenList, OpenNode, PartDocument, document_node, field_list}
use Rattle.ftl_building.specs.building.PartDocument.{in_list, in_node, listed_node, single_node}

-- fields, and then others
abbrev pub append_fields : (earlier later : WrittenFields) → WrittenFields
append_fields no_fields later = later
append_fields (number_field name n more) later = number_field name n (append_fields more later)
append_fields (node_field name class fields more) later = node_field name class fields (append_fields more later)
append_fields (list_field name nodes more) later = list_field name nodes (append_fields more later)

-- nodes, and then others
abbrev pub append_nodes : (earlier later : WrittenNodes) → WrittenNodes
append_nodes no_nodes later = later
append_nodes (node_and class fields more) later = node_and class fields (append_nodes more later)

-- more fields of an open node
abbrev pub with_fields : OpenNode → WrittenFields → OpenNode
with_fields (document_node class fields) more = document_node class (append_fields fields more)
with_fields (single_node around name class fields) more = single_node around name class (append_fields fields more)
with_fields (listed_node around class fields) more = listed_node around class (append_fields fields more)

-- more nodes of an open list
abbrev pub with_nodes : OpenList → WrittenNodes → OpenList
with_nodes (field_list around name nodes) more = field_list around name (append_nodes nodes more)

-- ---- the calls; where the other kind is open, a call adds nothing

-- a field that is a number
abbrev pub with_number : NameText → ℤ → PartDocument → PartDocument
with_number name n (in_node x) = in_node (with_fields x (number_field name n no_fields))
with_number name n (in_list x) = in_list x

-- a field that is a node, which is open
abbrev pub with_open_node : (name class : NameText) → PartDocument → PartDocument
with_open_node name class (in_node x) = in_node (single_node x name class no_fields)
with_open_node name class (in_list x) = in_list x

-- a field that is a list, which is open
abbrev pub with_open_list : NameText → PartDocument → PartDocument
with_open_list name (in_node x) = in_list (field_list x name no_nodes)
with_open_list name (in_list x) = in_list x

-- a node of the list, which is open
abbrev pub with_open_kid : (class : NameText) → PartDocument → PartDocument
with_open_kid class (in_node x) = in_node x
with_open_kid class (in_list x) = in_node (listed_node x class no_fields)

-- what was open innermost is closed, and stands in what is open around it; the document's node stays open
abbrev pub closed : PartDocument → PartDocument
closed (in_node (document_node class fields)) = in_node (document_node class fields)
closed (in_node (single_node around name class fields)) =
    in_node (with_fields around (node_field name class fields no_fields))
closed (in_node (listed_node around class fields)) = in_list (with_nodes around (node_and class fields no_nodes))
closed (in_list (field_list around name nodes)) = in_node (with_fields around (list_field name nodes no_fields))
