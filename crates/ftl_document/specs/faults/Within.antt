-- Documents whose numbers are within a width.
use Rattle.std.specs.Prelude.{ℕ}
use Rattle.ftl_model.specs.layout.TreeOf.{IsInput}
use Rattle.ftl_document.specs.syntax.Written.{WrittenFields, WrittenNode, WrittenNodes, list_field}
use Rattle.ftl_document.specs.syntax.Written.{no_fields, no_nodes, node_and, node_field, number_field}

abbrev mutual
  -- each number in these fields, and in the nodes below, is within the width of this greatest number
  pub AreWithin : (greatest : ℕ) → WrittenFields → Type 0
  AreWithin greatest no_fields = Unit {0}
  AreWithin greatest (number_field name n later) = IsInput greatest n × AreWithin greatest later
  AreWithin greatest (node_field name class fields later) = AreWithin greatest fields × AreWithin greatest later
  AreWithin greatest (list_field name nodes later) = AreAllWithin greatest nodes × AreWithin greatest later

  -- and each number in these nodes
  pub AreAllWithin : (greatest : ℕ) → WrittenNodes → Type 0
  AreAllWithin greatest no_nodes = Unit {0}
  AreAllWithin greatest (node_and class fields later) = AreWithin greatest fields × AreAllWithin greatest later

-- each number of a document
abbrev pub IsWithin : (greatest : ℕ) → WrittenNode → Type 0
IsWithin greatest node = AreWithin greatest node.fields
