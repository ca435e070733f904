-- What holds of each number of a list, place by place.
use Rattle.std.proofs.Common.{◌≡◌, ℕ, ◌+◌, ◌<◌, ◌≤◌, List, length, get_or, subst, ◌∙◌, inl, inr, arith}
use Rattle.std.proofs.lemmas.Bool.{cases_lt}
use Rattle.std.proofs.lemmas.List.{get_or_default}
use Rattle.ftl_regions.specs.hosts.Sides.{HoldsOfEach}

module _ (P : ℕ → Type 0) (xs : List ℕ) where
  -- at one place more
  pub each_more : (n : ℕ) → ((j : ℕ) → j < n → P (get_or xs j 0)) → P (get_or xs n 0) → (j : ℕ) → j < n + 1
      → P (get_or xs j 0)
  each_more n before here j below = elim (cases_lt j n) [
    | inl less ↦ before j less
    | inr above ↦ let same : n ≡ j = omega (arith, below, above) in subst (λ k. P (get_or xs k 0)) same here
  ]

  -- at all places
  pub each_of : (n : ℕ) → length xs ≤ n → ((j : ℕ) → j < n → P (get_or xs j 0)) → HoldsOfEach P xs
  each_of n all each a there =
      subst P (get_or_default xs there.0 0 a there.1 ∙ there.2)
      (each there.0 (let below = there.1 in omega (arith, below, all)))
