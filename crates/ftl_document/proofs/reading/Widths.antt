-- Widths of the numbers of a document, as the syntax and as the faults say it.
use Rattle.std.proofs.Common.{ℕ}
use Rattle.ftl_document.specs.syntax.Sizes.{FieldsAreWithin, NodesAreWithin}
use Rattle.ftl_document.specs.syntax.Written.{WrittenFields, WrittenNodes, list_field, no_fields, no_nodes}
use Rattle.ftl_document.specs.syntax.Written.{node_and, node_field, number_field}
use Rattle.ftl_document.specs.faults.Within.{AreAllWithin, AreWithin}

mutual
  pub fields_within : (greatest : ℕ) (fields : WrittenFields) → FieldsAreWithin greatest fields → AreWithin greatest fields
  fields_within greatest no_fields h = tt
  fields_within greatest (number_field name n later) h = (h.0, fields_within greatest later h.1)
  fields_within greatest (node_field name class fields later) h =
      (fields_within greatest fields h.0, fields_within greatest later h.1)
  fields_within greatest (list_field name nodes later) h =
      (nodes_within greatest nodes h.0, fields_within greatest later h.1)

  pub nodes_within : (greatest : ℕ) (nodes : WrittenNodes) → NodesAreWithin greatest nodes → AreAllWithin greatest nodes
  nodes_within greatest no_nodes h = tt
  nodes_within greatest (node_and class fields later) h =
      (fields_within greatest fields h.0, nodes_within greatest later h.1)
