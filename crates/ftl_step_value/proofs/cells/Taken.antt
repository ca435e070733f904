-- A cursor over a list, by what is left of it.
use Rattle.std.proofs.Common.{◌≡◌, ℕ, ◌+◌, ◌<◌, List, [], ◌∷◌, drop, get_or, length, Option, Some, None, sym, ◌∙◌, ap, add-one}
use Rattle.std.specs.List.{cons_option}
use Rattle.std.specs.Option.{IfNone}
use Rattle.std.proofs.Math.Seq.{drop-cons}

-- where there is one more, it is taken
pub record Taken (xs : List ℕ) (k : ℕ) (o : Option ℕ) (rest : List ℕ) : Type 0 where
  pub is : o ≡ Some (get_or xs k 0)
  pub left : rest ≡ drop (k + 1) xs

pub taken : (xs : List ℕ) (k : ℕ) (o : Option ℕ) (rest : List ℕ) → k < length xs → drop k xs ≡ cons_option o rest
    → IfNone o (rest ≡ [])
    → Taken xs k o rest
taken xs k o rest within next end = by o next end
  where
    first : drop k xs ≡ get_or xs k 0 ∷ drop (k + 1) xs
    first = drop-cons xs k 0 within ∙ ap (λ n. get_or xs k 0 ∷ drop n xs) (sym (add-one k))

    by : (o : Option ℕ) → drop k xs ≡ cons_option o rest → IfNone o (rest ≡ []) → Taken xs k o rest
    by None e none = absurd (let z : get_or xs k 0 ∷ drop (k + 1) xs ≡ [] = sym first ∙ e ∙ none in let y : ⊥ = cc in y)
    by (Some x) e none =
        let z : get_or xs k 0 ∷ drop (k + 1) xs ≡ x ∷ rest = sym first ∙ e in
        record { is = cc; left = cc }
