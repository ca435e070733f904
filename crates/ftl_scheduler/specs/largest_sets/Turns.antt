-- The order of attributes in which each is the least that is ready.
use Rattle.std.specs.Prelude.{◌≡◌, ℕ, ◌<◌, Bool, true, false, List, [], ◌∷◌, slice_index_or}
use Rattle.std.specs.FinSet as set
use Rattle.ftl_scheduler.specs.largest_sets.Rows.{Has, Row}

-- all that an attribute needs earlier is placed
abbrev pub is_ready : List Row → Row → ℕ → Bool
is_ready earlier placed b = set.is_subset (slice_index_or earlier b set.empty) placed

-- the attribute is the least of those that are ready and not placed
pub record IsTurn (earlier : List Row) (all placed : Row) (a : ℕ) : Type 0 where
  pub within : Has all a
  pub is_new : set.contains placed a ≡ false
  pub ready : is_ready earlier placed a ≡ true
  pub least : (b : ℕ) → b < a → Has all b → is_ready earlier placed b ≡ true → Has placed b

-- none that is ready is left
abbrev pub NoneReady : List Row → (all placed : Row) → Type 0
NoneReady earlier all placed = (b : ℕ) → Has all b → is_ready earlier placed b ≡ true → Has placed b

-- each attribute is the next one, and none is left behind them
abbrev pub Turns : List Row → (all placed : Row) → List ℕ → Type 0
Turns earlier all placed [] = NoneReady earlier all placed
Turns earlier all placed (a ∷ xs) = IsTurn earlier all placed a × Turns earlier all (set.insert placed a) xs

-- what is placed after them
abbrev pub after : Row → List ℕ → Row
after placed [] = placed
after placed (a ∷ xs) = after (set.insert placed a) xs
