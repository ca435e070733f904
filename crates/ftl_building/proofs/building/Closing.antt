-- What a builder keeps, once what is open innermost was closed.
use Rattle.std.proofs.Common.{◌≡◌, ℕ, ◌+◌, ◌-◌, ◌<◌, ◌≤◌, nat_eq, List, [], ◌∷◌, ◌++◌, refl, sym, ap, ap₂, subst, ◌∙◌}
use Rattle.std.proofs.Common.{true, length, length-append, append-nil, set, slice_index_or, take, arith}
use Rattle.std.proofs.lemmas.List.{get_or_at, set_at}
use Rattle.std.specs.List.{HoldsAt}
use Rattle.ftl_model.specs.layout.Limits.{most_nodes}
use Rattle.ftl_document.specs.declared.syntax.row.WrittenRow.{WrittenRow}
use Rattle.ftl_document.specs.declared.syntax.row.WrittenRow.TheVariants as rows
use Rattle.ftl_document.specs.syntax.Rows.{document_rows, rows_of_fields, rows_of_nodes}
use Rattle.ftl_document.specs.syntax.Sizes.{node_count}
use Rattle.ftl_document.specs.nodes.Found.{AreRowsOf}
use Rattle.ftl_document.specs.syntax.Written.{NameText, WrittenFields, WrittenNodes, list_field, no_fields, no_nodes}
use Rattle.ftl_document.specs.syntax.Written.{node_and, node_field}
use Rattle.ftl_building.specs.building.Calls.{closed, with_fields, with_nodes}
use Rattle.ftl_building.specs.building.PartDocument.{PartDocument, document_node, field_list, in_list, in_node}
use Rattle.ftl_building.specs.building.PartDocument.{document_so_far, is_whole, listed_node, single_node, takes_fields}
use Rattle.ftl_building.specs.building.PartInside.{IsKept}
use Rattle.ftl_building.specs.building.PartRows.{places_by_list, places_by_open, rows_by_list, rows_by_open}
use Rattle.ftl_building.specs.building.PartSizes.{levels_around, levels_open, most_entries}
use Rattle.ftl_building.specs.building.RowChanges.{nodes_of_row, with_below}
use Rattle.ftl_building.proofs.building.MoreFields.{class-with_fields, class-with_nodes, levels-with_fields}
use Rattle.ftl_building.proofs.building.MoreFields.{levels-with_nodes, nodes-with_fields, nodes-with_nodes}
use Rattle.ftl_building.proofs.building.MoreFields.{places-with_fields, places-with_nodes, rows-with_fields}
use Rattle.ftl_building.proofs.building.MoreFields.{rows-with_nodes}

-- the rows are these, with the innermost open one among them, and what is kept once it is closed
pub record IsOpenRow (p : PartDocument) (name : NameText) (at : ℕ) (outer : List ℕ) (all : List WrittenRow) (l n : ℕ)
    : Type 0 where
  pub before : List WrittenRow
  pub row : WrittenRow
  pub inside : List WrittenRow
  pub rows : all ≡ before ++ (row ∷ inside)
  pub here : at ≡ length before
  pub levels : nodes_of_row row ≤ l
  pub kind : nat_eq (nodes_of_row row) 1 ≡ takes_fields p
  pub kept : IsKept (closed p) name outer (before ++ (with_below (length inside) row ∷ inside)) (l - nodes_of_row row) n

-- the parts of a list that starts with a place
abbrev first_of : List ℕ → ℕ
first_of [] = 0
first_of (x ∷ xs) = x

abbrev pub rest_of : List ℕ → List ℕ
rest_of [] = []
rest_of (x ∷ xs) = xs

-- as many rows with another one
same_count : (before : List WrittenRow) (old new : WrittenRow) (inside all : List WrittenRow)
    → before ++ (old ∷ inside) ≡ all → length all ≤ most_entries → length (before ++ (new ∷ inside)) ≤ most_entries
same_count before old new inside all is few =
    let count : length (before ++ (old ∷ inside)) ≡ length all = ap length is in
    omega (arith, few, count, length-append before (old ∷ inside), length-append before (new ∷ inside))

pub open_row : (p : PartDocument) (name : NameText) (at : ℕ) (outer : List ℕ) (all : List WrittenRow) (l n : ℕ)
    → IsKept p name (at ∷ outer) all l n → IsOpenRow p name at outer all l n
open_row (in_node (document_node class _)) name at outer all l n h = let none = h.places in absurd cc
open_row (in_node (single_node around x class fields)) name at outer all l n h =
    let f = node_field x class fields no_fields in
    let inside = rows_of_fields fields in
    let count = nodes-with_fields around f in
    let nodes = h.nodes in
    let levels = h.levels in
    record {
      before = rows_by_open around;
      row = rows.Single x class 0;
      inside = inside;
      rows = sym h.rows;
      here = ap first_of (sym h.places);
      levels = omega (arith, levels);
      kind = refl;
      kept = record {
        class = class-with_fields around f ∙ h.class;
        places = places-with_fields around f ∙ ap rest_of h.places;
        rows = rows-with_fields around f
            ∙ ap (λ r. rows_by_open around ++ (rows.Single x class (length inside) ∷ r)) (append-nil inside);
        levels = levels-with_fields around f ∙ omega (arith, levels);
        nodes = omega (arith, count, nodes);
        few = h.few;
        short = same_count (rows_by_open around) (rows.Single x class 0) (rows.Single x class (length inside)) inside all
            h.rows h.short;
      };
    }
open_row (in_node (listed_node around class fields)) name at outer all l n h =
    let f = node_and class fields no_nodes in
    let inside = rows_of_fields fields in
    let count = nodes-with_nodes around f in
    let nodes = h.nodes in
    let levels = h.levels in
    record {
      before = rows_by_list around;
      row = rows.Kid class 0;
      inside = inside;
      rows = sym h.rows;
      here = ap first_of (sym h.places);
      levels = omega (arith, levels);
      kind = refl;
      kept = record {
        class = class-with_nodes around f ∙ h.class;
        places = places-with_nodes around f ∙ ap rest_of h.places;
        rows = rows-with_nodes around f
            ∙ ap (λ r. rows_by_list around ++ (rows.Kid class (length inside) ∷ r)) (append-nil inside);
        levels = levels-with_nodes around f ∙ omega (arith, levels);
        nodes = omega (arith, count, nodes);
        few = h.few;
        short = same_count (rows_by_list around) (rows.Kid class 0) (rows.Kid class (length inside)) inside all h.rows
            h.short;
      };
    }
open_row (in_list (field_list around x nodes)) name at outer all l n h =
    let f = list_field x nodes no_fields in
    let inside = rows_of_nodes nodes in
    let count = nodes-with_fields around f in
    let nodes = h.nodes in
    let levels = h.levels in
    record {
      before = rows_by_open around;
      row = rows.List x 0;
      inside = inside;
      rows = sym h.rows;
      here = ap first_of (sym h.places);
      levels = omega arith;
      kind = refl;
      kept = record {
        class = class-with_fields around f ∙ h.class;
        places = places-with_fields around f ∙ ap rest_of h.places;
        rows = rows-with_fields around f
            ∙ ap (λ r. rows_by_open around ++ (rows.List x (length inside) ∷ r)) (append-nil inside);
        levels = levels-with_fields around f ∙ omega (arith, levels);
        nodes = omega (arith, count, nodes);
        few = h.few;
        short = same_count (rows_by_open around) (rows.List x 0) (rows.List x (length inside)) inside all h.rows h.short;
      };
    }

-- the same of a builder's document, whose places begin so
pub open_there : (p q : PartDocument) (name : NameText) (places : List ℕ) (all : List WrittenRow) (l n at : ℕ)
    (outer : List ℕ) → p ≡ q → IsKept p name places all l n → places ≡ at ∷ outer → IsOpenRow q name at outer all l n
open_there p q name places all l n at outer same h is =
    open_row q name at outer all l n
    (subst (λ (x : List ℕ). IsKept q name x all l n) is (subst (λ (x : PartDocument). IsKept x name places all l n) same h))

module _ (p : PartDocument) (name : NameText) (at : ℕ) (outer : List ℕ) (all : List WrittenRow) (l n : ℕ)
    (o : IsOpenRow p name at outer all l n) where
  -- the open row is among the rows
  pub at_within : at < length all
  at_within =
      let here = o.here in
      let count : length all ≡ length (o.before ++ (o.row ∷ o.inside)) = ap length o.rows in
      omega (arith, here, count, length-append o.before (o.row ∷ o.inside))

  -- it is the one there
  pub row_there : (d : WrittenRow) → slice_index_or all at d ≡ o.row
  row_there d =
      ap (λ r. slice_index_or r at d) o.rows ∙ get_or_at o.before o.row o.inside d at (sym o.here)

  -- and once it is closed, these are the rows
  pub row_closed : (new : List WrittenRow)
      → HoldsAt (λ r. new ≡ set all at (with_below (length all - (at + 1)) r)) all at
      → new ≡ o.before ++ (with_below (length o.inside) o.row ∷ o.inside)
  row_closed new is =
      let here = o.here in
      let count : length all ≡ length (o.before ++ (o.row ∷ o.inside)) = ap length o.rows in
      let below : length all - (at + 1) ≡ length o.inside =
      omega (arith, here, count, length-append o.before (o.row ∷ o.inside)) in
      is o.row
      ∙ ap (λ r. set all at (with_below (length all - (at + 1)) r)) (row_there o.row)
      ∙ ap (λ k. set all at (with_below k o.row)) below
      ∙ ap (λ r. set r at (with_below (length o.inside) o.row)) o.rows
      ∙ set_at o.before o.row o.inside (with_below (length o.inside) o.row) at (sym o.here)

-- the first of some places
pub innermost_first : (places : List ℕ) (at : ℕ) → at ∷ [] ≡ take 1 places → places ≡ at ∷ rest_of places
innermost_first [] at e = absurd cc
innermost_first (x ∷ xs) at e = ap (λ y. y ∷ xs) (ap first_of (sym e))

-- a document of which its node alone is open: its rows, and how many nodes it has
pub whole_rows : (p : PartDocument) (name : NameText) (at : List ℕ) (all : List WrittenRow) (l n : ℕ)
    → IsKept p name at all l n → is_whole p ≡ true
    → AreRowsOf (document_so_far p) (document_rows name all) × (node_count (document_so_far p) ≤ most_nodes)
whole_rows (in_node (document_node class _)) name at all l n h whole =
    let count = h.nodes in
    let few = h.few in
    (ap₂ document_rows (sym h.class) (sym h.rows), omega (arith, count, few))
whole_rows (in_node (single_node around x class _)) name at all l n h whole = absurd cc
whole_rows (in_node (listed_node around class _)) name at all l n h whole = absurd cc
whole_rows (in_list x) name at all l n h whole = absurd cc
