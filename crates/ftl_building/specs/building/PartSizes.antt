-- How much is written of a document, and what may be added.
use Rattle.std.specs.Prelude.{◌≡◌, ℕ, suc, ◌+◌, ◌<◌, false, true, length}
use Rattle.ftl_model.specs.layout.Limits.{most_nodes}
use Rattle.ftl_document.specs.syntax.Braces.{deepest}
use Rattle.ftl_document.specs.syntax.Sizes.{nodes_in_fields, nodes_in_list}
use Rattle.ftl_building.specs.building.PartDocument.{OpenList, OpenNode, PartDocument, document_node, field_list}
use Rattle.ftl_building.specs.building.PartDocument.{in_list, in_node, listed_node, single_node, takes_fields}
use Rattle.ftl_building.specs.building.PartRows.{rows_of}

abbrev mutual
  -- how many nodes are open, where this node is open innermost
  pub levels_open : OpenNode → ℕ
  levels_open (document_node class _) = 1
  levels_open (single_node around name class _) = suc (levels_open around)
  levels_open (listed_node around class _) = suc (levels_around around)

  -- the same of a list
  pub levels_around : OpenList → ℕ
  levels_around (field_list around name _) = levels_open around

-- how many nodes are open
abbrev pub nodes_open : PartDocument → ℕ
nodes_open (in_node x) = levels_open x
nodes_open (in_list x) = levels_around x

abbrev mutual
  -- how many nodes there are, where this node is open innermost
  pub nodes_by_open : OpenNode → ℕ
  nodes_by_open (document_node class fields) = suc (nodes_in_fields fields)
  nodes_by_open (single_node around name class fields) = suc (nodes_by_open around + nodes_in_fields fields)
  nodes_by_open (listed_node around class fields) = suc (nodes_by_list around + nodes_in_fields fields)

  -- the same of a list
  pub nodes_by_list : OpenList → ℕ
  nodes_by_list (field_list around name nodes) = nodes_by_open around + nodes_in_list nodes

-- how many nodes there are, open and closed
abbrev pub nodes_in : PartDocument → ℕ
nodes_in (in_node x) = nodes_by_open x
nodes_in (in_list x) = nodes_by_list x

-- how many fields there are, with the nodes in lists
abbrev pub entries_in : PartDocument → ℕ
entries_in p = length (rows_of p)

-- how many there may be
abbrev pub most_entries : ℕ
most_entries = 4294967295

-- ---- what may be added

-- there is room for one more field or node of a list
abbrev pub HasRoom : PartDocument → Type 0
HasRoom p = entries_in p < most_entries

-- a node is open innermost, and may have one more field
abbrev pub TakesField : PartDocument → Type 0
TakesField p = (takes_fields p ≡ true) × HasRoom p

-- one more node may stand in those that are open, and in the document
abbrev pub HasRoomForNode : PartDocument → Type 0
HasRoomForNode p = (nodes_open p < deepest) × (nodes_in p < most_nodes)

-- a node is open innermost, and may have one more field that is a node
abbrev pub TakesNode : PartDocument → Type 0
TakesNode p = TakesField p × HasRoomForNode p

-- a list is open innermost, and may have one more node
abbrev pub TakesKid : PartDocument → Type 0
TakesKid p = (takes_fields p ≡ false) × HasRoom p × HasRoomForNode p
