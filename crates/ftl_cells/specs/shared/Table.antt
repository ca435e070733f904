-- How the table of a stage is laid out, and what a hand keeps.
use Rattle.std.specs.Prelude.{◌≡◌, ℕ, ◌+◌, ◌^◌, ◌<◌, []}
use Rattle.atomic_table.specs.Seated.{TableId}
use Rattle.atomic_table.specs.declared.shared.Seat.{Seat}
use Rattle.ftl_cells.specs.shared.Work.{Meaning, IsLawfulWork, cell_total, item_total}
use Rattle.ftl_cells.specs.shared.State.{live, HandState, word_total}
use Rattle.ftl_cells.specs.shared.Kept.{IsInRange}
use Rattle.ftl_cells.specs.declared.shared.place.HandPlace.{HandPlace}

-- the table of a work, where the states and the counters of its items begin
pub record IsTableOf (m : Meaning) (table : TableId) (states counters : ℕ) : Type 0 where
  pub words : table.words ≡ word_total m
  pub slots : table.slots ≡ 0
  pub lawful : IsLawfulWork m
  pub few_cells : cell_total m < 2 ^ 32
  pub few_items : item_total m < 2 ^ 32
  pub states_at : states ≡ 1 + cell_total m
  pub counters_at : counters ≡ 1 + cell_total m + item_total m

-- the hand's seat is at the place that the hand keeps, and holds no slot
pub record IsSeatedAt (place : HandPlace) (seat : Seat ℕ HandState) : Type 0 where
  pub is : seat.me.0.place ≡ live place
  pub empty : seat.me.1 ≡ []
  pub in_range : IsInRange seat.me.0.of (live place)

-- the seat is of this table, and its hand is for this work
abbrev pub IsSeatOf : Meaning → TableId → Seat ℕ HandState → Type 0
IsSeatOf m table seat = (seat.table_id ≡ table) × (seat.me.0.of ≡ m)
