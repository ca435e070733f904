-- Which phases the items of a work can take: ranges know nothing of each other.
use Rattle.std.specs.Prelude.{◌≡◌, ℕ, ◌+◌, ◌*◌, ◌<◌, ◌≤◌, ◌⊎◌, length, slice_index_or}
use Rattle.ftl_cells.specs.shared.Work.{Meaning, IsNext, IsStepOfItem, cell_total, item_total, read_of, read_total, target_of}
use Rattle.ftl_cells.specs.declared.work_phases.phase.Phase.{Phase}
use Rattle.ftl_cells.specs.declared.work_phases.phase.Phase.TheVariants.{First, Range, Last}
use Rattle.ftl_cells.specs.declared.work_phases.phase.Phases.{Phases}

-- the phase of an item
abbrev pub phase_at : Phases → ℕ → Phase
phase_at t i = slice_index_or t.phases.items i Last

-- a phase comes before another: the first before all others, the last after all others
abbrev pub ComesBefore : Phase → Phase → Type 0
ComesBefore First First = ⊥
ComesBefore First (Range b) = Unit {0}
ComesBefore First Last = Unit {0}
ComesBefore (Range a) First = ⊥
ComesBefore (Range a) (Range b) = ⊥
ComesBefore (Range a) Last = Unit {0}
ComesBefore Last y = ⊥

-- the cell is in the range of this number
abbrev pub IsCellOfRange : (size range cell : ℕ) → Type 0
IsCellOfRange size b c = (b * size ≤ c) × (c < (b + 1) * size)

-- A work can take these phases. Each item has one; the ranges have all cells; an item hands on to items of its own phase
-- or of later ones; and what the items of a range fill and read lies in it.
pub record CanTake (m : Meaning) (t : Phases) : Type 0 where
  pub count : length t.phases.items ≡ item_total m
  pub known : (i b : ℕ) → phase_at t i ≡ Range b → b < t.ranges
  pub cover : cell_total m ≤ t.ranges * t.size
  pub handing : (p i : ℕ) → IsNext m p i → (phase_at t p ≡ phase_at t i) ⊎ ComesBefore (phase_at t p) (phase_at t i)
  pub within : (i j b : ℕ) → IsStepOfItem m i j → phase_at t i ≡ Range b → IsCellOfRange t.size b (target_of m i j)
  pub reads : (i j r b : ℕ) → IsStepOfItem m i j → r < read_total m i j → phase_at t i ≡ Range b
      → IsCellOfRange t.size b (read_of m i j r)
