-- A list whose numbers don't fall is its groups by number, one after the other.
use Rattle.std.proofs.Common.{◌≡◌, ℕ, suc, ◌+◌, ◌<◌, ◌≤◌, ◌==◌, Bool, true, false, cond, refl, sym, ◌∙◌, ap, ap₂, ⊎_elim, arith, List, [], ◌∷◌, ◌++◌, length, filter, flat_map, Contains}
use Rattle.std.proofs.lemmas.Bool.{cases_lt, eqb-true, eqb-false, ne_eqb}
use Rattle.ftl_model.specs.lists.Lists.{NoneFalls}
use Rattle.ftl_model.proofs.lists.Elements.{here_in, later_in}
use Rattle.ftl_meaning.specs.faults.Numbering.{numbered}

module _ {X : Type 0} (f : X → ℕ) where
  -- those of this number
  abbrev group : ℕ → List X → List X
  group c xs = filter (λ x. f x == c) xs

  -- the groups of these numbers
  abbrev groups : {A : Type 0} → List (ℕ × A) → List X → List X
  groups cs xs = flat_map (λ c. group c.0 xs) cs

  -- an entry of another number is in no group
  other : (c : ℕ) (x : X) (xs : List X) → (f x ≡ c → ⊥) → group c (x ∷ xs) ≡ group c xs
  other c x xs apart = ap (λ b. cond b (x ∷ group c xs) (group c xs)) (ne_eqb (f x) c apart)

  -- where all numbers are greater, a group is empty
  none_greater : (c : ℕ) (xs : List X) → ((x : X) → Contains xs x → c < f x) → group c xs ≡ []
  none_greater c [] greater = refl
  none_greater c (x ∷ xs) greater =
      let first = greater x (here_in x xs) in
      other c x xs (λ same. let z : ⊥ = omega (arith, first, same) in z)
      ∙ none_greater c xs (λ y there. greater y (later_in x y xs there))

  -- groups of greater numbers don't have the entry
  past : {A : Type 0} (c : ℕ) (each : List A) (x : X) (xs : List X) → f x < c → groups (numbered c each) (x ∷ xs) ≡ groups (numbered c each) xs
  past c [] x xs less = refl
  past c (a ∷ more) x xs less =
      ap₂ (λ (ys zs : List X). ys ++ zs) (other c x xs (λ same. let z : ⊥ = omega (arith, less, same) in z))
      (past (suc c) more x xs (omega (arith, less)))

  -- an entry that is no greater than the others comes first
  comes_first : {A : Type 0} (c : ℕ) (each : List A) (x : X) (xs : List X) → c ≤ f x → f x < c + length each
      → ((y : X) → Contains xs y → f x ≤ f y) → groups (numbered c each) (x ∷ xs) ≡ x ∷ groups (numbered c each) xs
  comes_first c [] x xs low high least = absurd (let z : ⊥ = omega (arith, low, high) in z)
  comes_first c (a ∷ more) x xs low high least =
      by_test (f x == c) refl
      (λ above. comes_first (suc c) more x xs (omega (arith, above)) (omega (arith, high)) least)
    where
      by_test : (b : Bool) → (f x == c) ≡ b
          → (c < f x → groups (numbered (suc c) more) (x ∷ xs) ≡ x ∷ groups (numbered (suc c) more) xs)
          → cond b (x ∷ group c xs) (group c xs) ++ groups (numbered (suc c) more) (x ∷ xs)
          ≡ x ∷ (group c xs ++ groups (numbered (suc c) more) xs)
      by_test true e rest =
          let same = eqb-true (f x) c e in
          ap (λ (ys : List X). x ∷ (group c xs ++ ys)) (past (suc c) more x xs (omega (arith, same)))
      by_test false e rest =
          let apart = eqb-false (f x) c e in
          let above : c < f x = ⊎_elim (λ less. less) (λ least. absurd (apart (omega (arith, low, least)))) (cases_lt c (f x)) in
          let empty : group c xs ≡ [] =
          none_greater c xs (λ y there. let up = least y there in omega (arith, above, up)) in
          ap (λ (ys : List X). ys ++ groups (numbered (suc c) more) (x ∷ xs)) empty ∙ rest above
          ∙ ap (λ (ys : List X). x ∷ (ys ++ groups (numbered (suc c) more) xs)) (sym empty)

  -- of nothing all groups are empty
  no_groups : {A : Type 0} (c : ℕ) (each : List A) → groups (numbered c each) [] ≡ []
  no_groups c [] = refl
  no_groups c (a ∷ more) = no_groups (suc c) more

  pub groups_are_all : {A : Type 0} (c : ℕ) (each : List A) (xs : List X) → NoneFalls f xs
      → ((x : X) → Contains xs x → (c ≤ f x) × (f x < c + length each)) → groups (numbered c each) xs ≡ xs
  groups_are_all c each [] rises within = no_groups c each
  groups_are_all c each (x ∷ xs) rises within =
      let first = within x (here_in x xs) in
      comes_first c each x xs first.0 first.1 rises.0
      ∙ ap (λ (ys : List X). x ∷ ys)
      (groups_are_all c each xs rises.1 (λ y there. within y (later_in x y xs there)))
