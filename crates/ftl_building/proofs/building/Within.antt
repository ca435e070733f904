-- Numbers within a width, once something was added.
use Rattle.std.proofs.Common.{◌≡◌, ℕ, ℤ, true, ap, sym, subst, List, ◌∷◌, ◌++◌, length}
use Rattle.std.proofs.lemmas.List.Elements.{All-append, All-cons, All-nil}
use Rattle.std.specs.List.{All}
use Rattle.ftl_model.specs.layout.TreeOf.{IsInput}
use Rattle.ftl_document.specs.declared.syntax.row.WrittenRow.{WrittenRow}
use Rattle.ftl_document.specs.nodes.Found.{AreRowsOf}
use Rattle.ftl_document.specs.declared.syntax.row.WrittenRow.TheVariants as rows
use Rattle.ftl_document.specs.syntax.Rows.{DocumentRows, rows_of_fields, rows_of_nodes}
use Rattle.ftl_document.specs.syntax.Sizes.{FieldsAreWithin, NodesAreWithin, RowIsWithin}
use Rattle.ftl_document.specs.syntax.Written.{NameText, WrittenFields, WrittenNodes, list_field, no_fields, no_nodes}
use Rattle.ftl_document.specs.syntax.Written.{node_and, node_field, number_field}
use Rattle.ftl_building.specs.building.Calls.{append_fields, append_nodes, closed, with_fields, with_nodes}
use Rattle.ftl_building.specs.building.Calls.{with_number, with_open_kid, with_open_list, with_open_node}
use Rattle.ftl_building.specs.building.NumberLaws.{NumbersStayWithin, RowsAreWithin, StaysWithin}
use Rattle.ftl_building.specs.building.PartDocument.{OpenList, OpenNode, PartDocument, document_node, document_so_far}
use Rattle.ftl_building.specs.building.PartDocument.{field_list, in_list, in_node, is_whole, listed_node, single_node}
use Rattle.ftl_building.specs.building.PartWithin.{ListIsWithin, NodeIsWithin, PartIsWithin}

appended : (greatest : ℕ) (a b : WrittenFields) → FieldsAreWithin greatest a → FieldsAreWithin greatest b
    → FieldsAreWithin greatest (append_fields a b)
appended greatest no_fields b f g = g
appended greatest (number_field name n more) b f g = (f.0, appended greatest more b f.1 g)
appended greatest (node_field name class _ more) b f g = (f.0, appended greatest more b f.1 g)
appended greatest (list_field name nodes more) b f g = (f.0, appended greatest more b f.1 g)

nodes_appended : (greatest : ℕ) (a b : WrittenNodes) → NodesAreWithin greatest a → NodesAreWithin greatest b
    → NodesAreWithin greatest (append_nodes a b)
nodes_appended greatest no_nodes b f g = g
nodes_appended greatest (node_and class _ more) b f g = (f.0, nodes_appended greatest more b f.1 g)

more_fields : (greatest : ℕ) (x : OpenNode) (f : WrittenFields) → NodeIsWithin greatest x → FieldsAreWithin greatest f
    → NodeIsWithin greatest (with_fields x f)
more_fields greatest (document_node class fields) f h g = appended greatest fields f h g
more_fields greatest (single_node around name class fields) f h g = (h.0, appended greatest fields f h.1 g)
more_fields greatest (listed_node around class fields) f h g = (h.0, appended greatest fields f h.1 g)

more_nodes : (greatest : ℕ) (x : OpenList) (n : WrittenNodes) → ListIsWithin greatest x → NodesAreWithin greatest n
    → ListIsWithin greatest (with_nodes x n)
more_nodes greatest (field_list around name nodes) n h g = (h.0, nodes_appended greatest nodes n h.1 g)

-- ---- the calls

pub number_within : NumbersStayWithin with_number
number_within greatest name n (in_node x) small h = more_fields greatest x (number_field name n no_fields) h (small, tt)
number_within greatest name n (in_list x) small h = h

pub node_within : (name class : NameText) → StaysWithin (with_open_node name class)
node_within name class greatest (in_node x) h = (h, tt)
node_within name class greatest (in_list x) h = h

pub list_within : (name : NameText) → StaysWithin (with_open_list name)
list_within name greatest (in_node x) h = (h, tt)
list_within name greatest (in_list x) h = h

pub kid_within : (class : NameText) → StaysWithin (with_open_kid class)
kid_within class greatest (in_node x) h = h
kid_within class greatest (in_list x) h = (h, tt)

pub closed_within : StaysWithin closed
closed_within greatest (in_node (document_node class _)) h = h
closed_within greatest (in_node (single_node around name class fields)) h =
    more_fields greatest around (node_field name class fields no_fields) h.0 (h.1, tt)
closed_within greatest (in_node (listed_node around class fields)) h =
    more_nodes greatest around (node_and class fields no_nodes) h.0 (h.1, tt)
closed_within greatest (in_list (field_list around name nodes)) h =
    more_fields greatest around (list_field name nodes no_fields) h.0 (h.1, tt)

-- ---- the rows

mutual
  rows_within : (greatest : ℕ) (f : WrittenFields) → FieldsAreWithin greatest f
      → All (RowIsWithin greatest) (rows_of_fields f)
  rows_within greatest no_fields h = All-nil (RowIsWithin greatest)
  rows_within greatest (number_field x n later) h =
      All-cons (RowIsWithin greatest) (rows.Number x n) (rows_of_fields later) h.0 (rows_within greatest later h.1)
  rows_within greatest (node_field x class fields later) h =
      All-cons (RowIsWithin greatest) (rows.Single x class (length (rows_of_fields fields)))
      (rows_of_fields fields ++ rows_of_fields later) tt
      (All-append (RowIsWithin greatest) (rows_of_fields fields) (rows_of_fields later)
      (rows_within greatest fields h.0) (rows_within greatest later h.1))
  rows_within greatest (list_field x nodes later) h =
      All-cons (RowIsWithin greatest) (rows.List x (length (rows_of_nodes nodes)))
      (rows_of_nodes nodes ++ rows_of_fields later) tt
      (All-append (RowIsWithin greatest) (rows_of_nodes nodes) (rows_of_fields later)
      (kid_rows_within greatest nodes h.0) (rows_within greatest later h.1))

  kid_rows_within : (greatest : ℕ) (nodes : WrittenNodes) → NodesAreWithin greatest nodes
      → All (RowIsWithin greatest) (rows_of_nodes nodes)
  kid_rows_within greatest no_nodes h = All-nil (RowIsWithin greatest)
  kid_rows_within greatest (node_and class fields later) h =
      All-cons (RowIsWithin greatest) (rows.Kid class (length (rows_of_fields fields)))
      (rows_of_fields fields ++ rows_of_nodes later) tt
      (All-append (RowIsWithin greatest) (rows_of_fields fields) (rows_of_nodes later)
      (rows_within greatest fields h.0) (kid_rows_within greatest later h.1))

pub whole_within : RowsAreWithin
whole_within greatest (in_node (document_node class fields)) d whole h is =
    subst (λ (r : List WrittenRow). All (RowIsWithin greatest) r) (sym (ap (λ (x : DocumentRows). x.rows) is))
    (rows_within greatest fields h)
whole_within greatest (in_node (single_node around name class _)) d whole h is = absurd cc
whole_within greatest (in_node (listed_node around class _)) d whole h is = absurd cc
whole_within greatest (in_list x) d whole h is = absurd cc
