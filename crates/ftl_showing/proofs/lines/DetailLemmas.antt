-- The lines of a node in full.
use Rattle.std.proofs.Common.{◌≡◌, ℕ, ◌+◌, ◌<◌, List, ◌++◌, flat_map, length, get_or, take, sym, ap, ◌∙◌, append_assoc}
use Rattle.std.specs.Prelude.{Result, Ok, Err, OnOk}
use Rattle.std.proofs.lemmas.List.{flat_map_more, take_more}
use Rattle.maugzeris.specs.pages.Instances.{number_on}
use Rattle.maugzeris.specs.pages.PageState.{PageState}
use Rattle.ftl_showing.specs.lines.Details.{attribute_lines, computed_lines, field_column}

-- a column with what stands behind it
pub attribute_appended : {T E : Type 0} (p : PageState) (width n a i : ℕ) (r : Result T E) (old column new : List ℕ)
    → column ≡ old ++ field_column p width n a → i ≡ number_on p n a
    → OnOk r (new ≡ column ++ computed_lines p width i) → OnOk r (new ≡ old ++ attribute_lines p width n a)
attribute_appended p width n a i (Ok u) old column new column_is number is =
    is
    ∙ ap (λ c. c ++ computed_lines p width i) column_is
    ∙ append_assoc old (field_column p width n a) (computed_lines p width i)
    ∙ ap (λ j. old ++ (field_column p width n a ++ computed_lines p width j)) number
attribute_appended p width n a i (Err e) old column new column_is number is = is

-- the lines of one element more
pub one_more : (f : ℕ → List ℕ) (xs : List ℕ) (i d : ℕ) (before out new : List ℕ) → i < length xs
    → out ≡ before ++ flat_map f (take i xs) → new ≡ out ++ f (get_or xs i d)
    → new ≡ before ++ flat_map f (take (i + 1) xs)
one_more f xs i d before out new within out_is is =
    is
    ∙ ap (λ o. o ++ f (get_or xs i d)) out_is
    ∙ flat_map_more f before (take i xs) (get_or xs i d)
    ∙ ap (λ ys. before ++ flat_map f ys) (sym (take_more xs i d within))
