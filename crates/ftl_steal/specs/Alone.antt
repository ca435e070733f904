-- The words of a work's cells while its items are filled in order.
use Rattle.std.specs.Prelude.{◌≡◌, ℕ, ◌<◌, ◌⊎◌, List, length, slice_index}
use Rattle.ftl_cells.specs.shared.Work.{Meaning, IsLawfulWork, IsStepOfItem, cell_total, kind_at, target_of, solved_word}
use Rattle.ftl_cells.specs.declared.shared.kind.CellKind.TheVariants.{Given, Later}

-- the first step comes before the second one, item by item
abbrev pub IsBefore : ℕ → ℕ → ℕ → ℕ → Type 0
IsBefore k l item step = (k < item) ⊎ ((k ≡ item) × (l < step))

-- the work is lawful, there is a word for each cell, and the cells hold the solution's words where they are Given or
-- the target of a step before this one, and are empty, with 0, where they are Later or the target of this step or of one
-- after it: so each step finds its target empty, and none is made twice
pub record IsFilledTo (m : Meaning) (words : List ℕ) (item step : ℕ) : Type 0 where
  pub lawful : IsLawfulWork m
  pub count : length words ≡ cell_total m
  pub given : (c : ℕ) → c < cell_total m → kind_at m c ≡ Given → slice_index words c ≡ solved_word m c
  pub later : (c : ℕ) → c < cell_total m → kind_at m c ≡ Later → slice_index words c ≡ 0
  pub filled : (k l : ℕ) → IsStepOfItem m k l → IsBefore k l item step
      → slice_index words (target_of m k l) ≡ solved_word m (target_of m k l)
  pub rest : (k l : ℕ) → IsStepOfItem m k l → (IsBefore k l item step → ⊥) → slice_index words (target_of m k l) ≡ 0
