-- Cells that are computed from one another: which are, from which, and how.
use Rattle.std.specs.Prelude.{◌≡◌, ℕ, ◌<◌, Bool, true, List, Contains, slice_index_or}
use Rattle.ftl_model.specs.layout.Values.{Value, overflow}

-- how many cells; which are computed, what each reads and its value by a table; a key of each, and a cost
pub record Net : Type 0 where
  pub cells : ℕ
  pub is_step : ℕ → Bool
  pub reads : ℕ → List ℕ
  pub value : (ℕ → Value) → ℕ → Value
  pub key : ℕ → ℕ
  pub cost : ℕ → ℕ

-- a cell that is computed
pub record IsStep (n : Net) (i : ℕ) : Type 0 where
  pub within : i < n.cells
  pub computed : n.is_step i ≡ true

-- values depend on what is read alone, and the keys rise along the reads
pub record IsLawfulNet (n : Net) : Type 0 where
  pub alone :
      (s t : ℕ → Value) (i : ℕ) → i < n.cells → ((j : ℕ) → Contains (n.reads i) j → s j ≡ t j)
      → n.value s i ≡ n.value t i
  pub inside : (i j : ℕ) → i < n.cells → Contains (n.reads i) j → j < n.cells
  pub rises : (i j : ℕ) → IsStep n i → Contains (n.reads i) j → IsStep n j → n.key j < n.key i
  pub small : (i : ℕ) → IsStep n i → n.key i < 170141183460469231731687303715884105728
  pub one : (i j : ℕ) → IsStep n i → IsStep n j → n.key i ≡ n.key j → i ≡ j

-- a step that reads a cell, with this key
pub record IsReaderBy (n : Net) (cell key : ℕ) : Type 0 where
  pub reader : ℕ
  pub step : IsStep n reader
  pub reads : Contains (n.reads reader) cell
  pub key_is : n.key reader ≡ key

-- a step with this key
pub record IsKeyOf (n : Net) (key : ℕ) : Type 0 where
  pub cell : ℕ
  pub step : IsStep n cell
  pub key_is : n.key cell ≡ key

-- the table of some values
abbrev pub table : List Value → ℕ → Value
table values i = slice_index_or values i overflow
