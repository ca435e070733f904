-- What cells depend on, by the reads in any number of steps.
use Rattle.std.specs.Prelude.{◌≡◌, ◌≢◌, ℕ, ◌<◌, false, List, [], ◌∷◌, Contains}
use Rattle.ftl_model.specs.layout.Values.{Value}
use Rattle.ftl_relayout.specs.queue.Nets.{IsLawfulNet, IsStep, Net}
use Rattle.ftl_relayout.specs.queue.Ready.{HasChangedRead, HoldsAtSteps}

-- the first cell reads the first of these, each of these the next, and the last of these the last cell
abbrev pub LeadsTo : Net → ℕ → List ℕ → ℕ → Type 0
LeadsTo n i [] k = Contains (n.reads i) k
LeadsTo n i (j ∷ js) k = Contains (n.reads i) j × LeadsTo n j js k

-- a cell that is given and has another value in the two tables, on which the cell depends
pub record DependsOnChange (n : Net) (old final : ℕ → Value) (i : ℕ) : Type 0 where
  pub given : ℕ
  pub through : List ℕ
  pub leads : LeadsTo n i through given
  pub within : given < n.cells
  pub input : n.is_step given ≡ false
  pub changed : final given ≢ old given

-- of two tables that hold at the steps: a step with a read that has another value depends on a given cell that has
abbrev pub TouchedDepend : Type 0
TouchedDepend =
    (n : Net) → IsLawfulNet n → (old final : ℕ → Value) → HoldsAtSteps n old → HoldsAtSteps n final → (i : ℕ)
    → IsStep n i → HasChangedRead n old final i → DependsOnChange n old final i
