-- The first place that has something, place by place.
use Rattle.std.proofs.Common.{◌≡◌, ℕ, ◌+◌, ◌<◌, ⊎_elim, subst, arith}
use Rattle.std.proofs.lemmas.Bool.{cases_lt}

-- one more has none
pub one_more_none : (P : ℕ → Type 0) (n : ℕ) → ((j : ℕ) → j < n → P j) → P n → (j : ℕ) → j < n + 1 → P j
one_more_none P n before here j less =
    ⊎_elim (λ low. before j low) (λ high. subst P (let z : n ≡ j = omega (arith, less, high) in z) here) (cases_lt j n)
