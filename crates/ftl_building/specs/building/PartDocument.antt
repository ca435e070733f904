-- Documents while they are written: what is open, with the fields or nodes that it has so far.
use Rattle.std.specs.Prelude.{Bool, false, true}
use Rattle.ftl_document.specs.syntax.Written.{NameText, WrittenFields, WrittenNode, WrittenNodes, written_node}

mutual
  -- a node that is open: the document's own, one that is a field, or one in a list
  pub data OpenNode : Type 0 where
    document_node : (class : NameText) (fields : WrittenFields) → OpenNode
    single_node : (around : OpenNode) (name class : NameText) (fields : WrittenFields) → OpenNode
    listed_node : (around : OpenList) (class : NameText) (fields : WrittenFields) → OpenNode

  -- a list that is open: the field of a node
  pub data OpenList : Type 0 where
    field_list : (around : OpenNode) (name : NameText) (nodes : WrittenNodes) → OpenList

-- what is open innermost, with all that is open around it
pub data PartDocument : Type 0 where
  in_node : OpenNode → PartDocument
  in_list : OpenList → PartDocument

-- whether a node is open innermost, so that fields may come
abbrev pub takes_fields : PartDocument → Bool
takes_fields (in_node x) = true
takes_fields (in_list x) = false

-- whether the document's node alone is open
abbrev pub is_whole : PartDocument → Bool
is_whole (in_node (document_node class _)) = true
is_whole (in_node (single_node around name class _)) = false
is_whole (in_node (listed_node around class _)) = false
is_whole (in_list x) = false

abbrev mutual
  -- the document's node, with the fields that are closed
  pub node_so_far : OpenNode → WrittenNode
  node_so_far (document_node class fields) = written_node class fields
  node_so_far (single_node around name class _) = node_so_far around
  node_so_far (listed_node around class _) = node_around around

  -- the same, where a list is open
  pub node_around : OpenList → WrittenNode
  node_around (field_list around name _) = node_so_far around

-- the node of a document, with the fields that are closed
abbrev pub document_so_far : PartDocument → WrittenNode
document_so_far (in_node x) = node_so_far x
document_so_far (in_list x) = node_around x
