-- The document that rows are of, where these of them are open.
use Rattle.std.specs.Prelude.{◌≡◌, ℕ, zero, suc, ◌≤◌, List, [], ◌∷◌, ◌++◌, length, take, drop, refl}
use Rattle.std.proofs.Common.{ap, ap₂, ◌∙◌, arith, length-append}
use Rattle.std.proofs.lemmas.List.{take_at, drop_at}
use Rattle.ftl_document.specs.declared.syntax.row.WrittenRow.{WrittenRow}
use Rattle.ftl_document.specs.declared.syntax.row.WrittenRow.TheVariants as rows
use Rattle.ftl_document.specs.syntax.Rows.{rows_of_fields, rows_of_nodes}
use Rattle.ftl_document.specs.syntax.Written.{NameText, WrittenFields, WrittenNodes, list_field, no_fields, no_nodes}
use Rattle.ftl_document.specs.syntax.Written.{node_and, node_field, number_field}
use Rattle.ftl_building.specs.building.PartDocument.{OpenList, OpenNode, PartDocument, document_node, field_list}
use Rattle.ftl_building.specs.building.PartDocument.{in_list, in_node, listed_node, single_node}
use Rattle.ftl_building.specs.building.PartRows.{class_by_list, class_by_open, class_of, places_by_list, places_by_open}
use Rattle.ftl_building.specs.building.PartRows.{places_of, rows_by_list, rows_by_open, rows_of}

abbrev mutual
  -- the fields of these rows, which are at most so many
  pub fields_of_rows : (most : ℕ) → List WrittenRow → WrittenFields
  fields_of_rows zero _ = no_fields
  fields_of_rows (suc n) (rows.Number name x ∷ later) = number_field name x (fields_of_rows n later)
  fields_of_rows (suc n) (rows.Single name class below ∷ later) =
      node_field name class (fields_of_rows n (take below later)) (fields_of_rows n (drop below later))
  fields_of_rows (suc n) (rows.List name below ∷ later) =
      list_field name (nodes_of_rows n (take below later)) (fields_of_rows n (drop below later))
  fields_of_rows (suc n) _ = no_fields

  -- the nodes of these rows
  pub nodes_of_rows : (most : ℕ) → List WrittenRow → WrittenNodes
  nodes_of_rows zero _ = no_nodes
  nodes_of_rows (suc n) (rows.Kid class below ∷ later) =
      node_and class (fields_of_rows n (take below later)) (nodes_of_rows n (drop below later))
  nodes_of_rows (suc n) _ = no_nodes

-- what an open row, with the rows behind it, is in what is open around it
abbrev pub entered : PartDocument → List WrittenRow → PartDocument
entered (in_node around) (rows.Single name class below ∷ inside) =
    in_node (single_node around name class (fields_of_rows (length inside) inside))
entered (in_node around) (rows.List name below ∷ inside) =
    in_list (field_list around name (nodes_of_rows (length inside) inside))
entered (in_list around) (rows.Kid class below ∷ inside) =
    in_node (listed_node around class (fields_of_rows (length inside) inside))
entered around _ = around

-- the document of a class with these rows, those at the places open, innermost first
abbrev pub part_of_rows : (class : NameText) → (places : List ℕ) → List WrittenRow → PartDocument
part_of_rows class [] all = in_node (document_node class (fields_of_rows (length all) all))
part_of_rows class (at ∷ outer) all = entered (part_of_rows class outer (take at all)) (drop at all)

-- ---- rows are read as they were written

mutual
  pub fields_read : (n : ℕ) (f : WrittenFields) → length (rows_of_fields f) ≤ n
      → fields_of_rows n (rows_of_fields f) ≡ f
  fields_read zero no_fields few = refl
  fields_read (suc n) no_fields few = refl
  fields_read zero (number_field name x later) few = absurd (omega (arith, few))
  fields_read (suc n) (number_field name x later) few =
      ap (number_field name x) (fields_read n later (omega (arith, few)))
  fields_read zero (node_field name class _ later) few = absurd (omega (arith, few))
  fields_read (suc n) (node_field name class fields later) few =
      let inside = rows_of_fields fields in
      let more = rows_of_fields later in
      let count = length-append inside more in
      ap₂ (node_field name class)
      (ap (fields_of_rows n) (take_at inside more (length inside) refl)
      ∙ fields_read n fields (omega (arith, few, count)))
      (ap (fields_of_rows n) (drop_at inside more (length inside) refl)
      ∙ fields_read n later (omega (arith, few, count)))
  fields_read zero (list_field name nodes later) few = absurd (omega (arith, few))
  fields_read (suc n) (list_field name nodes later) few =
      let inside = rows_of_nodes nodes in
      let more = rows_of_fields later in
      let count = length-append inside more in
      ap₂ (list_field name)
      (ap (nodes_of_rows n) (take_at inside more (length inside) refl)
      ∙ nodes_read n nodes (omega (arith, few, count)))
      (ap (fields_of_rows n) (drop_at inside more (length inside) refl)
      ∙ fields_read n later (omega (arith, few, count)))

  pub nodes_read : (n : ℕ) (nodes : WrittenNodes) → length (rows_of_nodes nodes) ≤ n
      → nodes_of_rows n (rows_of_nodes nodes) ≡ nodes
  nodes_read zero no_nodes few = refl
  nodes_read (suc n) no_nodes few = refl
  nodes_read zero (node_and class _ later) few = absurd (omega (arith, few))
  nodes_read (suc n) (node_and class fields later) few =
      let inside = rows_of_fields fields in
      let more = rows_of_nodes later in
      let count = length-append inside more in
      ap₂ (node_and class)
      (ap (fields_of_rows n) (take_at inside more (length inside) refl)
      ∙ fields_read n fields (omega (arith, few, count)))
      (ap (nodes_of_rows n) (drop_at inside more (length inside) refl)
      ∙ nodes_read n later (omega (arith, few, count)))

-- all rows of some fields
all_fields_read : (f : WrittenFields) → fields_of_rows (length (rows_of_fields f)) (rows_of_fields f) ≡ f
all_fields_read f = fields_read (length (rows_of_fields f)) f (omega arith)

all_nodes_read : (nodes : WrittenNodes) → nodes_of_rows (length (rows_of_nodes nodes)) (rows_of_nodes nodes) ≡ nodes
all_nodes_read nodes = nodes_read (length (rows_of_nodes nodes)) nodes (omega arith)

-- an open row behind others
row_read : (class : NameText) (places : List ℕ) (outer : List WrittenRow) (around : PartDocument) (row : WrittenRow)
    (inside : List WrittenRow)
    → part_of_rows class places outer ≡ around
    → part_of_rows class (length outer ∷ places) (outer ++ (row ∷ inside)) ≡ entered around (row ∷ inside)
row_read class places outer around row inside is =
    ap₂ entered
    (ap (part_of_rows class places) (take_at outer (row ∷ inside) (length outer) refl) ∙ is)
    (drop_at outer (row ∷ inside) (length outer) refl)

mutual
  open_read : (x : OpenNode) → part_of_rows (class_by_open x) (places_by_open x) (rows_by_open x) ≡ in_node x
  open_read (document_node class fields) = ap (λ f. in_node (document_node class f)) (all_fields_read fields)
  open_read (single_node around name class fields) =
      row_read (class_by_open around) (places_by_open around) (rows_by_open around) (in_node around)
      (rows.Single name class 0) (rows_of_fields fields) (open_read around)
      ∙ ap (λ f. in_node (single_node around name class f)) (all_fields_read fields)
  open_read (listed_node around class fields) =
      row_read (class_by_list around) (places_by_list around) (rows_by_list around) (in_list around)
      (rows.Kid class 0) (rows_of_fields fields) (list_read around)
      ∙ ap (λ f. in_node (listed_node around class f)) (all_fields_read fields)

  list_read : (x : OpenList) → part_of_rows (class_by_list x) (places_by_list x) (rows_by_list x) ≡ in_list x
  list_read (field_list around name nodes) =
      row_read (class_by_open around) (places_by_open around) (rows_by_open around) (in_node around)
      (rows.List name 0) (rows_of_nodes nodes) (open_read around)
      ∙ ap (λ n. in_list (field_list around name n)) (all_nodes_read nodes)

-- a document is the one that its rows are of
pub part_read : (p : PartDocument) → part_of_rows (class_of p) (places_of p) (rows_of p) ≡ p
part_read (in_node x) = open_read x
part_read (in_list x) = list_read x
