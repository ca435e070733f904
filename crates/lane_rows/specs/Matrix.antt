-- A matrix as the list of its rows, and the walks along its entries.
use Rattle.std.specs.Prelude.{◌≡◌, ℕ, Bool, true, List, [], ◌∷◌, slice_index_or}
use Rattle.std.specs.Ordering.{nat_cmp}
use Rattle.std.specs.FinSet as set

-- whether the matrix has an entry from one number to another
abbrev pub entry : List (set.FinSet nat_cmp) → ℕ → ℕ → Bool
entry rows start end = set.contains (slice_index_or rows start set.empty) end

-- entries lead from one number through those between, in their order, to another
abbrev pub IsWalk : List (set.FinSet nat_cmp) → ℕ → List ℕ → ℕ → Type 0
IsWalk rows start [] end = entry rows start end ≡ true
IsWalk rows start (next ∷ between) end = (entry rows start next ≡ true) × IsWalk rows next between end

-- a walk of one entry or more leads from one number to another
abbrev pub Leads : List (set.FinSet nat_cmp) → ℕ → ℕ → Type 0
Leads rows start end = (between : List ℕ) × IsWalk rows start between end
