-- One more entry of a list by number.
use Rattle.std.proofs.Common.{◌≡◌, ℕ, ◌+◌, List, [], ◌∷◌, ◌++◌, sym, ◌∙◌, ap₂, arith}
use Rattle.std.proofs.lemmas.List.FromFn.{map-range_with_len_more}
use Rattle.ftl_visit.specs.rule_tables.RuleTables.{by_number}

pub next_entry : {X : Type 0} (f : ℕ → X) (n : ℕ) (rows new : List X) (x : X) → new ≡ rows ++ x ∷ []
    → rows ≡ by_number f n → x ≡ f n → new ≡ by_number f (n + 1)
next_entry f n rows new x is before value =
    is
    ∙ ap₂ (λ xs y. xs ++ y ∷ []) before value
    ∙ sym (map-range_with_len_more f 0 n n (let z : 0 + n ≡ n = omega arith in z))
