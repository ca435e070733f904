-- Attributes of a list by the side of a nest on which they are: of the region of its host class, or outside it.
use Rattle.std.specs.Prelude.{◌↔◌, ℕ, ◌<◌, List, length, slice_index, Contains}
use Rattle.ftl_model.specs.layout.AttributeGrammar.{AttributeGrammar}
use Rattle.ftl_order.specs.orders.Schedule.{entries}
use Rattle.ftl_nests.specs.Nests.{KeepsSides, Nest}
use Rattle.ftl_nests.specs.Region.{IsClosed, OfRegion}

-- the attribute isn't of the region
abbrev pub IsOutside : AttributeGrammar → (host a : ℕ) → Type 0
IsOutside g host a = OfRegion g host a → ⊥

-- it holds of each number of the list
abbrev pub HoldsOfEach : (ℕ → Type 0) → List ℕ → Type 0
HoldsOfEach P xs = (a : ℕ) → Contains xs a → P a

-- the second holds at this place of the list, and the first at each place before
pub record IsFirstWhere (Before Here : ℕ → Type 0) (xs : List ℕ) (place : ℕ) : Type 0 where
  pub within : place < length xs
  pub here : Here (slice_index xs place)
  pub before : (j : ℕ) → j < place → Before (slice_index xs j)

-- a nest keeps its sides exactly where it is closed, each attribute of the own list is outside, and each of its own is
-- of the region
abbrev pub SidesAreKept : Type 0
SidesAreKept =
    (g : AttributeGrammar) (attributes : List ℕ) (nest : Nest)
    → KeepsSides g attributes nest
    ↔ (IsClosed g nest.host × HoldsOfEach (IsOutside g nest.host) attributes
    × HoldsOfEach (OfRegion g nest.host) (entries nest.stages))
