-- Rows, places and counts of what is open, once fields or nodes were added.
use Rattle.std.proofs.Common.{◌≡◌, ◌+◌, ◌∷◌, ◌++◌, refl, sym, ap, ◌∙◌, append_assoc, length, length-append, arith}
use Rattle.ftl_document.specs.declared.syntax.row.WrittenRow.TheVariants as rows
use Rattle.ftl_document.specs.syntax.Rows.{rows_of_fields, rows_of_nodes}
use Rattle.ftl_document.specs.syntax.Sizes.{nodes_in_fields, nodes_in_list}
use Rattle.ftl_document.specs.syntax.Written.{WrittenFields, WrittenNodes, list_field, no_fields, no_nodes}
use Rattle.ftl_document.specs.syntax.Written.{node_and, node_field, number_field}
use Rattle.ftl_building.specs.building.Calls.{append_fields, append_nodes, with_fields, with_nodes}
use Rattle.ftl_building.specs.building.PartDocument.{OpenList, OpenNode, document_node, field_list, listed_node, single_node}
use Rattle.ftl_building.specs.building.PartRows.{class_by_list, class_by_open, places_by_list, places_by_open}
use Rattle.ftl_building.specs.building.PartRows.{rows_by_list, rows_by_open}
use Rattle.ftl_building.specs.building.PartSizes.{levels_around, levels_open, nodes_by_list, nodes_by_open}

-- ---- lists of fields and of nodes

rows-append_fields : (a b : WrittenFields) → rows_of_fields (append_fields a b) ≡ rows_of_fields a ++ rows_of_fields b
rows-append_fields no_fields b = refl
rows-append_fields (number_field name n more) b = ap (λ l. rows.Number name n ∷ l) (rows-append_fields more b)
rows-append_fields (node_field name class fields more) b =
    ap (λ l. rows.Single name class (length (rows_of_fields fields)) ∷ l)
    (ap (λ l. rows_of_fields fields ++ l) (rows-append_fields more b)
    ∙ sym (append_assoc (rows_of_fields fields) (rows_of_fields more) (rows_of_fields b)))
rows-append_fields (list_field name nodes more) b =
    ap (λ l. rows.List name (length (rows_of_nodes nodes)) ∷ l)
    (ap (λ l. rows_of_nodes nodes ++ l) (rows-append_fields more b)
    ∙ sym (append_assoc (rows_of_nodes nodes) (rows_of_fields more) (rows_of_fields b)))

rows-append_nodes : (a b : WrittenNodes) → rows_of_nodes (append_nodes a b) ≡ rows_of_nodes a ++ rows_of_nodes b
rows-append_nodes no_nodes b = refl
rows-append_nodes (node_and class fields more) b =
    ap (λ l. rows.Kid class (length (rows_of_fields fields)) ∷ l)
    (ap (λ l. rows_of_fields fields ++ l) (rows-append_nodes more b)
    ∙ sym (append_assoc (rows_of_fields fields) (rows_of_nodes more) (rows_of_nodes b)))

nodes-append_fields : (a b : WrittenFields)
    → nodes_in_fields (append_fields a b) ≡ nodes_in_fields a + nodes_in_fields b
nodes-append_fields no_fields b = omega arith
nodes-append_fields (number_field name n more) b = nodes-append_fields more b
nodes-append_fields (node_field name class inside more) b =
    let later = nodes-append_fields more b in omega (arith, later)
nodes-append_fields (list_field name nodes more) b = let later = nodes-append_fields more b in omega (arith, later)

nodes-append_nodes : (a b : WrittenNodes) → nodes_in_list (append_nodes a b) ≡ nodes_in_list a + nodes_in_list b
nodes-append_nodes no_nodes b = omega arith
nodes-append_nodes (node_and class inside more) b = let later = nodes-append_nodes more b in omega (arith, later)

-- ---- more fields of an open node

pub rows-with_fields : (x : OpenNode) (f : WrittenFields)
    → rows_by_open (with_fields x f) ≡ rows_by_open x ++ rows_of_fields f
rows-with_fields (document_node class fields) f = rows-append_fields fields f
rows-with_fields (single_node around name class fields) f =
    ap (λ l. rows_by_open around ++ (rows.Single name class 0 ∷ l)) (rows-append_fields fields f)
    ∙ sym (append_assoc (rows_by_open around) (rows.Single name class 0 ∷ rows_of_fields fields) (rows_of_fields f))
rows-with_fields (listed_node around class fields) f =
    ap (λ l. rows_by_list around ++ (rows.Kid class 0 ∷ l)) (rows-append_fields fields f)
    ∙ sym (append_assoc (rows_by_list around) (rows.Kid class 0 ∷ rows_of_fields fields) (rows_of_fields f))

pub places-with_fields : (x : OpenNode) (f : WrittenFields) → places_by_open (with_fields x f) ≡ places_by_open x
places-with_fields (document_node class _) f = refl
places-with_fields (single_node around name class _) f = refl
places-with_fields (listed_node around class _) f = refl

pub class-with_fields : (x : OpenNode) (f : WrittenFields) → class_by_open (with_fields x f) ≡ class_by_open x
class-with_fields (document_node class _) f = refl
class-with_fields (single_node around name class _) f = refl
class-with_fields (listed_node around class _) f = refl

pub levels-with_fields : (x : OpenNode) (f : WrittenFields) → levels_open (with_fields x f) ≡ levels_open x
levels-with_fields (document_node class _) f = refl
levels-with_fields (single_node around name class _) f = refl
levels-with_fields (listed_node around class _) f = refl

pub nodes-with_fields : (x : OpenNode) (f : WrittenFields)
    → nodes_by_open (with_fields x f) ≡ nodes_by_open x + nodes_in_fields f
nodes-with_fields (document_node class fields) f =
    let more = nodes-append_fields fields f in omega (arith, more)
nodes-with_fields (single_node around name class fields) f =
    let more = nodes-append_fields fields f in omega (arith, more)
nodes-with_fields (listed_node around class fields) f =
    let more = nodes-append_fields fields f in omega (arith, more)

-- ---- more nodes of an open list

pub rows-with_nodes : (x : OpenList) (n : WrittenNodes)
    → rows_by_list (with_nodes x n) ≡ rows_by_list x ++ rows_of_nodes n
rows-with_nodes (field_list around name nodes) n =
    ap (λ l. rows_by_open around ++ (rows.List name 0 ∷ l)) (rows-append_nodes nodes n)
    ∙ sym (append_assoc (rows_by_open around) (rows.List name 0 ∷ rows_of_nodes nodes) (rows_of_nodes n))

pub places-with_nodes : (x : OpenList) (n : WrittenNodes) → places_by_list (with_nodes x n) ≡ places_by_list x
places-with_nodes (field_list around name _) n = refl

pub class-with_nodes : (x : OpenList) (n : WrittenNodes) → class_by_list (with_nodes x n) ≡ class_by_list x
class-with_nodes (field_list around name _) n = refl

pub levels-with_nodes : (x : OpenList) (n : WrittenNodes) → levels_around (with_nodes x n) ≡ levels_around x
levels-with_nodes (field_list around name _) n = refl

pub nodes-with_nodes : (x : OpenList) (n : WrittenNodes)
    → nodes_by_list (with_nodes x n) ≡ nodes_by_list x + nodes_in_list n
nodes-with_nodes (field_list around name nodes) n = let more = nodes-append_nodes nodes n in omega (arith, more)
