-- What the cells of a range hold while the items of a phase are filled in order.
use Rattle.std.specs.Prelude.{◌≡◌, ℕ, ◌+◌, ◌*◌, ◌<◌, ◌≤◌, ◌⊎◌, List, length, slice_index, min}
use Rattle.ftl_cells.specs.shared.Work.{Meaning, IsLawfulWork, IsStepOfItem, cell_total, kind_at, target_of, solved_word}
use Rattle.ftl_cells.specs.shared.Work.{read_of, read_total}
use Rattle.ftl_cells.specs.declared.shared.kind.CellKind.TheVariants.{Given, Later}
use Rattle.ftl_steal.specs.Alone.{IsBefore}
use Rattle.ftl_cells.specs.work_phases.Phases.{CanTake, ComesBefore, phase_at}
use Rattle.ftl_cells.specs.declared.work_phases.phase.Phase.{Phase}
use Rattle.ftl_cells.specs.declared.work_phases.phase.Phase.TheVariants.{First, Range}
use Rattle.ftl_cells.specs.declared.work_phases.phase.Phases.{Phases}

-- the first cell of a range, or how many cells there are where that is less
abbrev pub range_first : (size cells range : ℕ) → ℕ
range_first size cells b = min (b * size) cells

-- of the words of the cells from a first one on, that of a cell is this one, if it is among them
abbrev pub Holds : (words : List ℕ) (first cell word : ℕ) → Type 0
Holds words first c w = (d : ℕ) → c ≡ first + d → d < length words → slice_index words d ≡ w

-- The words of the cells from a first one on: each that is among them is the solution's where the cell is Given or the
-- target of a step that is made, and 0, so that the cell is empty, where it is Later or the target of a step that isn't:
-- so each step finds its target empty, and none is made twice.
pub record HoldMade (m : Meaning) (is_made : (item step : ℕ) → Type 0) (words : List ℕ) (first : ℕ) : Type 0 where
  pub given : (c : ℕ) → c < cell_total m → kind_at m c ≡ Given → Holds words first c (solved_word m c)
  pub later : (c : ℕ) → c < cell_total m → kind_at m c ≡ Later → Holds words first c 0
  pub filled : (k l : ℕ) → IsStepOfItem m k l → is_made k l
      → Holds words first (target_of m k l) (solved_word m (target_of m k l))
  pub rest : (k l : ℕ) → IsStepOfItem m k l → (is_made k l → ⊥) → Holds words first (target_of m k l) 0

-- the step's phase is before this one, or it is the same and the step comes before this step of an item
abbrev pub IsMade : Phases → Phase → (item step k l : ℕ) → Type 0
IsMade t x item step k l = ((phase_at t k ≡ x) × IsBefore k l item step) ⊎ ComesBefore (phase_at t k) x

-- the step's phase is the first
abbrev pub IsOfFirst : Phases → (k l : ℕ) → Type 0
IsOfFirst t k l = phase_at t k ≡ First

-- the item's phase is one of so many ranges from this one on
pub record IsOfRanges (t : Phases) (from count item : ℕ) : Type 0 where
  pub range : ℕ
  pub low : from ≤ range
  pub high : range < from + count
  pub is : phase_at t item ≡ Range range

-- the step's phase is the first, or one of so many ranges from this one on
abbrev pub IsOfFirstOrRanges : Phases → (from count k l : ℕ) → Type 0
IsOfFirstOrRanges t from count k l = IsOfFirst t k l ⊎ IsOfRanges t from count k

-- In this phase, before this step of an item: the words are those of the steps that are made, and all that the phase
-- fills and reads is among them.
pub record IsFilledIn (m : Meaning) (t : Phases) (x : Phase) (words : List ℕ) (first item step : ℕ) : Type 0 where
  pub lawful : IsLawfulWork m
  pub taken : CanTake m t
  pub targets : (i j : ℕ) → IsStepOfItem m i j → phase_at t i ≡ x
      → (first ≤ target_of m i j) × (target_of m i j < first + length words)
  pub reads : (i j r : ℕ) → IsStepOfItem m i j → r < read_total m i j → phase_at t i ≡ x
      → (first ≤ read_of m i j r) × (read_of m i j r < first + length words)
  pub made : HoldMade m (IsMade t x item step) words first
