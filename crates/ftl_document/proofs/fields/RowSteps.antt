-- The rows of a node's fields, one field after another.
use Rattle.std.proofs.Common.{◌≡◌, ℕ, suc, ◌+◌, ◌<◌, ◌≤◌, sym, ◌∙◌, ap, ap₂, arith, List, [], ◌∷◌, ◌++◌, length, get_or, drop, append_assoc}
use Rattle.std.proofs.Math.Seq.{drop-append_seam, drop-cons}
use Rattle.std.proofs.lemmas.List.{append-nil, drop-drop, drop_all}
use Rattle.ftl_document.specs.syntax.Rows.{rows_of_fields, rows_of_nodes}
use Rattle.ftl_document.specs.syntax.Written.{WrittenFields, list_field, no_fields, node_field, number_field}
use Rattle.ftl_document.specs.declared.syntax.row.WrittenRow.{WrittenRow}
use Rattle.ftl_document.specs.declared.syntax.row.WrittenRow.TheVariants as rows
use Rattle.ftl_document.specs.fields.OwnFields.{fields_in, inside, own_of}
use Rattle.ftl_document.specs.declared.fields.own_field.OwnField.{OwnField}

-- these fields were found, and the rows from here on are those of the rest
pub record IsReached (xs : List WrittenRow) (at : ℕ) (found : List OwnField) (written : WrittenFields) : Type 0 where
  pub rest : WrittenFields
  pub left : drop at xs ≡ rows_of_fields rest
  pub fields : found ++ own_of rest ≡ own_of written

pub reached_first : (xs : List WrittenRow) (found : List OwnField) (written : WrittenFields) → found ≡ []
    → xs ≡ rows_of_fields written → IsReached xs 0 found written
reached_first xs found written none is =
    record { rest = written; left = is; fields = ap (λ ys. ys ++ own_of written) none }

-- one row more
module _ (xs : List WrittenRow) (at : ℕ) (found : List OwnField) (written : WrittenFields) (row : WrittenRow)
    (within : at < length xs) (is : row ≡ get_or xs at row) where
  next : drop at xs ≡ row ∷ drop (suc at) xs
  next = drop-cons xs at row within ∙ ap (λ y. y ∷ drop (suc at) xs) (sym is)

  past : (n : ℕ) → drop (at + (1 + n)) xs ≡ drop n (drop (suc at) xs)
  past n = ap (λ m. drop m xs) (let z : at + (1 + n) ≡ suc at + n = omega arith in z) ∙ sym (drop-drop n (suc at) xs)

  more : (rest : WrittenFields) → drop at xs ≡ rows_of_fields rest → found ++ own_of rest ≡ own_of written
      → IsReached xs (at + (1 + inside row)) (found ++ fields_in row) written
  more no_fields left fields = absurd (let z : ⊥ = cc (sym next ∙ left) in z)
  more (number_field x n later) left fields =
      let both : row ∷ drop (suc at) xs ≡ rows.Number x n ∷ rows_of_fields later = sym next ∙ left in
      let same : row ≡ rows.Number x n = cc both in
      let tail : drop (suc at) xs ≡ rows_of_fields later = cc both in
      record {
        rest = later;
        left = past (inside row) ∙ ap (λ r. drop (inside r) (drop (suc at) xs)) same ∙ tail;
        fields = ap (λ r. (found ++ fields_in r) ++ own_of later) same ∙ append_assoc found _ (own_of later) ∙ fields;
      }
  more (node_field x class inner later) left fields =
      let both : row ∷ drop (suc at) xs ≡ rows.Single x class (length (rows_of_fields inner)) ∷ (rows_of_fields inner ++ rows_of_fields later) = sym next ∙ left in
      let same : row ≡ rows.Single x class (length (rows_of_fields inner)) = cc both in
      let tail : drop (suc at) xs ≡ rows_of_fields inner ++ rows_of_fields later = cc both in
      record {
        rest = later;
        left = past (inside row) ∙ ap₂ (λ r ys. drop (inside r) ys) same tail ∙ drop-append_seam (rows_of_fields inner) (rows_of_fields later);
        fields = ap (λ r. (found ++ fields_in r) ++ own_of later) same ∙ append_assoc found _ (own_of later) ∙ fields;
      }
  more (list_field x nodes later) left fields =
      let both : row ∷ drop (suc at) xs ≡ rows.List x (length (rows_of_nodes nodes)) ∷ (rows_of_nodes nodes ++ rows_of_fields later) = sym next ∙ left in
      let same : row ≡ rows.List x (length (rows_of_nodes nodes)) = cc both in
      let tail : drop (suc at) xs ≡ rows_of_nodes nodes ++ rows_of_fields later = cc both in
      record {
        rest = later;
        left = past (inside row) ∙ ap₂ (λ r ys. drop (inside r) ys) same tail ∙ drop-append_seam (rows_of_nodes nodes) (rows_of_fields later);
        fields = ap (λ r. (found ++ fields_in r) ++ own_of later) same ∙ append_assoc found _ (own_of later) ∙ fields;
      }

  pub reached_more : IsReached xs at found written → IsReached xs (at + (1 + inside row)) (found ++ fields_in row) written
  reached_more h = more h.rest h.left h.fields

-- at the end all fields were found
pub reached_last : (xs : List WrittenRow) (at : ℕ) (found : List OwnField) (written : WrittenFields) → length xs ≤ at
    → IsReached xs at found written → found ≡ own_of written
reached_last xs at found written past h = by_rest h.rest (sym (drop_all at xs past) ∙ h.left) h.fields
  where
    by_rest : (rest : WrittenFields) → [] ≡ rows_of_fields rest → found ++ own_of rest ≡ own_of written → found ≡ own_of written
    by_rest no_fields e fields = sym (append-nil found) ∙ fields
    by_rest (number_field x n later) e fields = absurd (let z : ⊥ = cc e in z)
    by_rest (node_field x class _ later) e fields = absurd (let z : ⊥ = cc e in z)
    by_rest (list_field x nodes later) e fields = absurd (let z : ⊥ = cc e in z)
