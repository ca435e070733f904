-- What a look-up finds.
use Rattle.std.proofs.Common.{◌≡◌, ℕ, zero, suc, ◌+◌, ◌<◌, ◌∙◌, ⊎_elim, not, Bool, true, false, ◌||◌, cond, refl, subst, ap, arith, List, [], ◌∷◌, length, Contains, Some}
use Rattle.std.specs.List.{find, list_any, position_or_len, prefix_len, slice_get}
use Rattle.std.proofs.lemmas.Option.{none-some, same_Some}
use Rattle.std.proofs.lemmas.Bool.{false≢true, or_cases}
use Rattle.ftl_model.proofs.lists.Elements.{here_in, later_in}

-- what is found is there, and passes
pub find_is : {X : Type 0} (p : X → Bool) (xs : List X) (x : X) → find p xs ≡ Some x → Contains xs x × (p x ≡ true)
find_is p [] x h = absurd (none-some x h)
find_is p (y ∷ ys) x h =
    elim (p y) as
    (λ b. (p y ≡ b) → cond b (Some y) (find p ys) ≡ Some x → Contains (y ∷ ys) x × (p x ≡ true)) [
      | true ↦ λ e h.
          let same = same_Some y x h in
          (subst (Contains (y ∷ ys)) same (here_in y ys), subst (λ z. p z ≡ true) same e)
      | false ↦ λ e h. let i = find_is p ys x h in (later_in y x ys i.0, i.1)
    ]
    refl h

-- the place of one that passes is within the list
pub position_within : {X : Type 0} (p : X → Bool) (xs : List X) → list_any p xs ≡ true → position_or_len p xs < length xs
position_within p [] h = absurd (false≢true h)
position_within p (x ∷ xs) h =
    elim (p x) as
    (λ b. ((b || list_any p xs) ≡ true) → cond (not b) (1 + prefix_len (λ z. not (p z)) xs) 0 < suc (length xs)) [
      | true ↦ λ h. omega arith
      | false ↦ λ h. let i = position_within p xs h in omega (arith, i)
    ]
    h

-- what some entry passes, one at a place does
pub any_at : {X : Type 0} (p : X → Bool) (xs : List X) → list_any p xs ≡ true
    → (n : ℕ) × (x : X) × (slice_get xs n ≡ Some x) × (p x ≡ true)
any_at p [] h = absurd (false≢true h)
any_at p (x ∷ xs) h =
    ⊎_elim (λ here. (0, x, refl, here)) (λ later. let i = any_at p xs later in (suc i.0, i.1, i.2, i.3))
    (or_cases (p x) (list_any p xs) h)

-- the first that passes is found
pub find_first : {X : Type 0} (p : X → Bool) (xs : List X) (n : ℕ) (x : X) → slice_get xs n ≡ Some x → p x ≡ true
    → ((m : ℕ) (y : X) → m < n → slice_get xs m ≡ Some y → p y ≡ false) → find p xs ≡ Some x
find_first p [] n x is passes first = absurd (none-some x is)
find_first p (y ∷ ys) zero x is passes first =
    let same = same_Some y x is in
    ap (λ b. cond b (Some y) (find p ys)) (ap p same ∙ passes) ∙ is
find_first p (y ∷ ys) (suc n) x is passes first =
    ap (λ b. cond b (Some y) (find p ys)) (first 0 y (omega arith) refl)
    ∙ find_first p ys n x is passes (λ m z before at. first (suc m) z (omega (arith, before)) at)

-- an entry at a place is an entry
pub in_by_place : {X : Type 0} (xs : List X) (n : ℕ) (x : X) → slice_get xs n ≡ Some x → Contains xs x
in_by_place [] n x is = absurd (none-some x is)
in_by_place (y ∷ ys) zero x is = subst (Contains (y ∷ ys)) (same_Some y x is) (here_in y ys)
in_by_place (y ∷ ys) (suc n) x is = later_in y x ys (in_by_place ys n x is)
