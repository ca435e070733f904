-- Where the numbers of the rows are within a width, so are those of the document.
use Rattle.std.proofs.Common.{ℕ, List, ◌∷◌, ◌++◌, length, take, drop, refl, sym, ap}
use Rattle.std.specs.List.{All}
use Rattle.std.proofs.lemmas.List.{take_at, drop_at}
use Rattle.std.proofs.lemmas.List.Elements.{All-head, All-tail, All-same, All-take, All-drop}
use Rattle.ftl_document.specs.declared.syntax.row.WrittenRow.{WrittenRow}
use Rattle.ftl_document.specs.declared.syntax.row.WrittenRow.TheVariants as rows
use Rattle.ftl_document.specs.syntax.Rows.{DocumentRows, rows_of_fields, rows_of_nodes}
use Rattle.ftl_document.specs.syntax.Sizes.{RowIsWithin}
use Rattle.ftl_document.specs.syntax.Written.{WrittenFields, WrittenNode, WrittenNodes, list_field, no_fields}
use Rattle.ftl_document.specs.syntax.Written.{no_nodes, node_and, node_field, number_field}
use Rattle.ftl_document.specs.faults.Within.{AreAllWithin, AreWithin, IsWithin}
use Rattle.ftl_document.specs.nodes.Found.{AreRowsOf}

module _ (greatest : ℕ) where
  -- all rows are within
  abbrev RowsAreWithin : List WrittenRow → Type 0
  RowsAreWithin xs = All (RowIsWithin greatest) xs

  front : (xs ys : List WrittenRow) → RowsAreWithin (xs ++ ys) → RowsAreWithin xs
  front xs ys h =
      All-same (RowIsWithin greatest) xs (take (length xs) (xs ++ ys)) (sym (take_at xs ys (length xs) refl))
      (All-take (RowIsWithin greatest) (length xs) (xs ++ ys) h)

  back : (xs ys : List WrittenRow) → RowsAreWithin (xs ++ ys) → RowsAreWithin ys
  back xs ys h =
      All-same (RowIsWithin greatest) ys (drop (length xs) (xs ++ ys)) (sym (drop_at xs ys (length xs) refl))
      (All-drop (RowIsWithin greatest) (length xs) (xs ++ ys) h)

  behind : (x : WrittenRow) (xs : List WrittenRow) → RowsAreWithin (x ∷ xs) → RowsAreWithin xs
  behind x xs h = All-tail (RowIsWithin greatest) x xs h

  mutual
    pub rows_within : (f : WrittenFields) → RowsAreWithin (rows_of_fields f) → AreWithin greatest f
    rows_within no_fields h = tt
    rows_within (number_field x n later) h = (
      All-head (RowIsWithin greatest) (rows.Number x n) (rows_of_fields later) h,
      rows_within later (behind (rows.Number x n) (rows_of_fields later) h),
    )
    rows_within (node_field x class fields later) h =
        let inside = rows_of_fields fields in
        let more = rows_of_fields later in
        let both = behind (rows.Single x class (length inside)) (inside ++ more) h in
        (rows_within fields (front inside more both), rows_within later (back inside more both))
    rows_within (list_field x nodes later) h =
        let inside = rows_of_nodes nodes in
        let more = rows_of_fields later in
        let both = behind (rows.List x (length inside)) (inside ++ more) h in
        (kid_rows_within nodes (front inside more both), rows_within later (back inside more both))

    kid_rows_within : (nodes : WrittenNodes) → RowsAreWithin (rows_of_nodes nodes) → AreAllWithin greatest nodes
    kid_rows_within no_nodes h = tt
    kid_rows_within (node_and class fields later) h =
        let inside = rows_of_fields fields in
        let more = rows_of_nodes later in
        let both = behind (rows.Kid class (length inside)) (inside ++ more) h in
        (rows_within fields (front inside more both), kid_rows_within later (back inside more both))

  -- the same of the rows of a document
  pub within_by_rows : (node : WrittenNode) (d : DocumentRows) → AreRowsOf node d → RowsAreWithin d.rows
      → IsWithin greatest node
  within_by_rows node d is h =
      rows_within node.fields (All-same (RowIsWithin greatest) (rows_of_fields node.fields) d.rows
      (sym (ap (λ (e : DocumentRows). e.rows) is)) h)
