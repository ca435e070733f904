-- Before and after all that a change touches is computed anew.
use Rattle.std.specs.Prelude.{◌≡◌, ◌≢◌, ◌↔◌, ℕ, ◌<◌, false, List, [], ◌∷◌, ◌++◌, ◌⊎◌, Contains, slice_set}
use Rattle.ftl_model.specs.lists.Lists.{AreDistinct}
use Rattle.ftl_model.specs.layout.Values.{Value}
use Rattle.ftl_relayout.specs.queue.Nets.{IsReaderBy, IsStep, Net, table}
use Rattle.ftl_relayout.specs.queue.Trails.{cells_of}
use Rattle.ftl_relayout.specs.declared.queue.trail.Before.{Before}

-- a read of the cell has another value than before
abbrev pub HasChangedRead : Net → (old now : ℕ → Value) → ℕ → Type 0
HasChangedRead n old now i = (j : ℕ) × Contains (n.reads i) j × (now j ≢ old j)

-- the table holds at each step
abbrev pub HoldsAtSteps : Net → (ℕ → Value) → Type 0
HoldsAtSteps n s = (i : ℕ) → IsStep n i → s i ≡ n.value s i

-- a step with a changed read waits under this key
pub record IsDue (n : Net) (old now : ℕ → Value) (key : ℕ) : Type 0 where
  pub cell : ℕ
  pub step : IsStep n cell
  pub key_is : n.key cell ≡ key
  pub changed : HasChangedRead n old now cell

-- the inputs are changed, the steps are as before, and just those with a changed read wait
pub record IsReady (n : Net) (old final : ℕ → Value) (values : List Value) (waiting : List ℕ) : Type 0 where
  pub old_holds : HoldsAtSteps n old
  pub final_holds : HoldsAtSteps n final
  pub inputs : (i : ℕ) → i < n.cells → n.is_step i ≡ false → table values i ≡ final i
  pub stays : (i : ℕ) → IsStep n i → table values i ≡ old i
  pub due : (i : ℕ) → IsStep n i → HasChangedRead n old (table values) i → Contains waiting (n.key i)
  pub only : (k : ℕ) → Contains waiting k → IsDue n old (table values) k

-- all have the values that hold, and those that ran are those with a read that has another value, each once
pub record IsDone (n : Net) (old final : ℕ → Value) (values : List Value) (ran : List ℕ) : Type 0 where
  pub values_are : (i : ℕ) → i < n.cells → table values i ≡ final i
  pub touched : (i : ℕ) → Contains ran i ↔ (IsStep n i × (j : ℕ) × Contains (n.reads i) j × (old j ≢ final j))
  pub once : AreDistinct ran

-- the step of a key was computed, and what reads its cell came to wait where the value is another one
pub record IsRun (n : Net) (key : ℕ) (v w : List Value) (before after : List ℕ) (trail longer : List Before) : Type 0 where
  pub cell : ℕ
  pub step : IsStep n cell
  pub key_is : n.key cell ≡ key
  pub written : w ≡ slice_set v cell (n.value (table v) cell)
  pub ran : cells_of longer ≡ cells_of trail ++ (cell ∷ [])
  pub kept : (k : ℕ) → Contains before k → Contains after k
  pub readers : (n.value (table v) cell ≢ table v cell) → (k : ℕ) → IsReaderBy n cell k → Contains after k
  pub no_others :
      (k : ℕ) → Contains after k
      → Contains before k ⊎ (IsReaderBy n cell k × (n.value (table v) cell ≢ table v cell))
