-- What a work means: its cells, its items with their steps, and the solution; and when that is lawful.
use Rattle.std.specs.Prelude.{◌≡◌, ℕ, ◌^◌, ◌<◌, ◌≤◌, ◌⊎◌, List, [], length, map, slice_index, slice_index_or}
use Rattle.ftl_model.specs.layout.Values.{Value, overflow, IsValue, word_of_value}
use Rattle.ftl_cells.specs.shared.Count.{Counts}
use Rattle.ftl_cells.specs.declared.shared.kind.CellKind.{CellKind}
use Rattle.ftl_cells.specs.declared.shared.kind.CellKind.TheVariants.{Given, Target, Later}

-- a step of an item: the cell that it fills, and the cells that it reads, in order
pub record StepMeaning : Type 0 where
  pub target : ℕ
  pub reads : List ℕ

-- an item: how many predecessors it has, the items that have it as predecessor, and its steps
pub record ItemMeaning : Type 0 where
  pub preds : ℕ
  pub next : List ℕ
  pub steps : List StepMeaning

-- a work: its cells, its items, the solution with a value for each cell, and how much its steps need at most
pub record Meaning : Type 0 where
  pub kinds : List CellKind
  pub items : List ItemMeaning
  pub solution : List Value
  pub max_reads : ℕ
  pub max_stack : ℕ

abbrev pub no_step : StepMeaning
no_step = record { target = 0; reads = [] }

abbrev pub no_item : ItemMeaning
no_item = record { preds = 0; next = []; steps = [] }

abbrev pub no_work : Meaning
no_work = record { kinds = []; items = []; solution = []; max_reads = 0; max_stack = 0 }

module _ (m : Meaning) where
  abbrev pub item_at : ℕ → ItemMeaning
  item_at i = slice_index_or m.items i no_item

  abbrev pub step_at : ℕ → ℕ → StepMeaning
  step_at i j = slice_index_or (item_at i).steps j no_step

  unfoldable pub cell_total : ℕ
  cell_total = length m.kinds

  unfoldable pub kind_at : ℕ → CellKind
  kind_at c = slice_index_or m.kinds c Later

  -- the solution's value at a cell
  unfoldable pub solution_at : ℕ → Value
  solution_at c = slice_index_or m.solution c overflow

  unfoldable pub item_total : ℕ
  item_total = length m.items

  unfoldable pub pred_total : ℕ → ℕ
  pred_total i = (item_at i).preds

  unfoldable pub next_total : ℕ → ℕ
  next_total i = length (item_at i).next

  unfoldable pub next_at : ℕ → ℕ → ℕ
  next_at i k = slice_index (item_at i).next k

  unfoldable pub step_total : ℕ → ℕ
  step_total i = length (item_at i).steps

  unfoldable pub target_of : ℕ → ℕ → ℕ
  target_of i j = (step_at i j).target

  unfoldable pub reads_of_step : ℕ → ℕ → List ℕ
  reads_of_step i j = (step_at i j).reads

  abbrev pub read_total : ℕ → ℕ → ℕ
  read_total i j = length (reads_of_step i j)

  abbrev pub read_of : ℕ → ℕ → ℕ → ℕ
  read_of i j r = slice_index (reads_of_step i j) r

  -- the solution's values at the reads of a step
  abbrev pub solved_reads : ℕ → ℕ → List Value
  solved_reads i j = map solution_at (reads_of_step i j)

  -- the word of the solution's value at a cell
  abbrev pub solved_word : ℕ → ℕ
  solved_word c = word_of_value (solution_at c)

-- the item has this step
pub record IsStepOfItem (m : Meaning) (i j : ℕ) : Type 0 where
  pub item : i < item_total m
  pub step : j < step_total m i

-- the first item is a direct predecessor of the second, which stands at a place of its list
pub record IsNext (m : Meaning) (p i : ℕ) : Type 0 where
  pub known : p < item_total m
  pub at : ℕ
  pub below : at < next_total m p
  pub is : next_at m p at ≡ i

-- the cell is the target of an earlier step of the same item
pub record IsOwn (m : Meaning) (i j c : ℕ) : Type 0 where
  pub step : ℕ
  pub earlier : step < j
  pub is : target_of m i step ≡ c

-- the cell is a target of a direct predecessor
pub record IsHandedOn (m : Meaning) (i c : ℕ) : Type 0 where
  pub item : ℕ
  pub step : ℕ
  pub next : IsNext m item i
  pub known : IsStepOfItem m item step
  pub is : target_of m item step ≡ c

-- a step of this item may read the cell
abbrev pub IsReadable : Meaning → ℕ → ℕ → ℕ → Type 0
IsReadable m i j c = (kind_at m c ≡ Given) ⊎ IsOwn m i j c ⊎ IsHandedOn m i c

-- the cell is the target of a step
pub record IsTargeted (m : Meaning) (c : ℕ) : Type 0 where
  pub item : ℕ
  pub step : ℕ
  pub known : IsStepOfItem m item step
  pub is : target_of m item step ≡ c

-- Lawful work. Each predecessor of an item has a smaller number, and the item's count is that of its predecessors; each
-- Target cell is the target of exactly one step, and no other cell is one; each read is of a Given cell, of the target
-- of an earlier step of the same item, or of a target of a direct predecessor; and all numbers are in range
pub record IsLawfulWork (m : Meaning) : Type 0 where
  pub solved : length m.solution ≡ cell_total m
  pub values : (c : ℕ) → c < cell_total m → IsValue (solution_at m c)
  pub next_in_range : (i k : ℕ) → i < item_total m → k < next_total m i → next_at m i k < item_total m
  pub next_is_later : (i k : ℕ) → i < item_total m → k < next_total m i → i < next_at m i k
  pub next_once : (i k l : ℕ) → i < item_total m → k < next_total m i → l < next_total m i
      → next_at m i k ≡ next_at m i l → k ≡ l
  pub preds : (i : ℕ) → i < item_total m → Counts (λ p. IsNext m p i) i (pred_total m i)
  pub target_in_range : (i j : ℕ) → IsStepOfItem m i j → target_of m i j < cell_total m
  pub target_kind : (i j : ℕ) → IsStepOfItem m i j → kind_at m (target_of m i j) ≡ Target
  pub target_once : (i j k l : ℕ) → IsStepOfItem m i j → IsStepOfItem m k l → target_of m i j ≡ target_of m k l
      → (i ≡ k) × (j ≡ l)
  pub each_target : (c : ℕ) → c < cell_total m → kind_at m c ≡ Target → IsTargeted m c
  pub read_in_range : (i j r : ℕ) → IsStepOfItem m i j → r < read_total m i j → read_of m i j r < cell_total m
  pub readable : (i j r : ℕ) → IsStepOfItem m i j → r < read_total m i j → IsReadable m i j (read_of m i j r)
  pub few_reads : (i j : ℕ) → IsStepOfItem m i j → read_total m i j ≤ m.max_reads
  pub counted : (i : ℕ) → i < item_total m → (next_total m i < 2 ^ 32) × (step_total m i < 2 ^ 32)
  pub reads_counted : (i j : ℕ) → IsStepOfItem m i j → read_total m i j < 2 ^ 32
