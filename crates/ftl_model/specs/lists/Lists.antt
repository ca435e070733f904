-- Words on lists that several crates speak of.
use Rattle.std.specs.Prelude.{◌≡◌, ◌⊎◌, ℕ, suc, ◌<◌, ◌≤◌, Bool, true, false, ◌==◌, nat_le, if◌then◌else◌, List, [], ◌∷◌}
use Rattle.std.specs.Prelude.{length, Contains, HoldsAt}

-- the place of a number in a list, or the list's length where it has none
abbrev pub place_in : List ℕ → ℕ → ℕ
place_in [] x = 0
place_in (y ∷ ys) x = if x == y then 0 else suc (place_in ys x)

-- whether a list has a number
abbrev pub is_listed : List ℕ → ℕ → Bool
is_listed [] x = false
is_listed (y ∷ ys) x = if x == y then true else is_listed ys x

-- no entry stands twice
abbrev pub AreDistinct : {X : Type 0} → List X → Type 0
AreDistinct [] = Unit {0}
AreDistinct (x ∷ xs) = (Contains xs x → ⊥) × AreDistinct xs

-- i stands before j
abbrev pub StandsBefore : {X : Type 0} → List X → X → X → Type 0
StandsBefore xs i j =
    (m : ℕ) × (n : ℕ) × (m < n) × (n < length xs) × HoldsAt (λ x. x ≡ i) xs m × HoldsAt (λ x. x ≡ j) xs n

-- of two lists of numbers, compared from the left, the first is less: at the first difference its number is smaller
abbrev pub Before : List ℕ → List ℕ → Type 0
Before [] ys = ⊥
Before (x ∷ xs) [] = ⊥
Before (x ∷ xs) (y ∷ ys) = (x < y) ⊎ ((x ≡ y) × Before xs ys)

-- put before the first whose number is not smaller
abbrev pub insert_by : {X : Type 0} → (X → ℕ) → X → List X → List X
insert_by f x [] = x ∷ []
insert_by f x (y ∷ ys) = if nat_le (f x) (f y) then x ∷ (y ∷ ys) else y ∷ insert_by f x ys

-- in the order of their numbers
abbrev pub sorted_by : {X : Type 0} → (X → ℕ) → List X → List X
sorted_by f [] = []
sorted_by f (x ∷ xs) = insert_by f x (sorted_by f xs)

-- no entry has a smaller number than one before it
abbrev pub NoneFalls : {X : Type 0} → (X → ℕ) → List X → Type 0
NoneFalls f [] = Unit {0}
NoneFalls {X} f (x ∷ xs) = ((y : X) → Contains xs y → f x ≤ f y) × NoneFalls f xs
