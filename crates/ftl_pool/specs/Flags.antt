-- A row of flags, of which the first that is up is put down.
use Rattle.std.specs.Prelude.{◌≡◌, ℕ, ◌<◌, Bool, true, false, List, length, slice_index_or, slice_set, Option, Some}
use Rattle.std.specs.Prelude.{None}

-- all flags below this place are down
abbrev pub AreDownBelow : List Bool → ℕ → Type 0
AreDownBelow flags n = (k : ℕ) → k < n → slice_index_or flags k false ≡ false

-- the place is that of the first flag that is up
pub record IsFirstUp (flags : List Bool) (at : ℕ) : Type 0 where
  pub known : at < length flags
  pub up : slice_index_or flags at false ≡ true
  pub first : AreDownBelow flags at

-- the first flag that is up is put down and the others stay; or none is up, and all stay
abbrev pub Lowers : List Bool → Option ℕ → List Bool → Type 0
Lowers flags None next = AreDownBelow flags (length flags) × (next ≡ flags)
Lowers flags (Some at) next = IsFirstUp flags at × (next ≡ slice_set flags at false)
