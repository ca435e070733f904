-- A work that is given by functions, without lists in memory, and what it means.
use Rattle.std.specs.Prelude.{◌≡◌, ℕ, ◌^◌, ◌<◌, ◌≤◌, ◌⊎◌, List, map}
use Rattle.std.specs.List.{range_with_len}
use Rattle.ftl_model.specs.layout.Values.{Value, IsValue}
use Rattle.ftl_cells.specs.shared.Count.{Counts}
use Rattle.ftl_cells.specs.shared.Work.{StepMeaning, ItemMeaning, Meaning}
use Rattle.ftl_cells.specs.declared.shared.kind.CellKind.{CellKind}
use Rattle.ftl_cells.specs.declared.shared.kind.CellKind.TheVariants.{Given, Target}

-- each function where its arguments are in range
pub record WorkShape : Type 0 where
  pub cells : ℕ
  pub kind : ℕ → CellKind
  pub value : ℕ → Value
  pub items : ℕ
  pub preds : ℕ → ℕ
  pub next_count : ℕ → ℕ
  pub next : ℕ → ℕ → ℕ
  pub steps : ℕ → ℕ
  pub target : ℕ → ℕ → ℕ
  pub read_count : ℕ → ℕ → ℕ
  pub read : ℕ → ℕ → ℕ → ℕ
  pub max_reads : ℕ
  pub max_stack : ℕ

-- the values of a function below a number
abbrev pub listing : {X : Type 0} → (ℕ → X) → ℕ → List X
listing f n = map f (range_with_len 0 n)

abbrev pub step_of : WorkShape → ℕ → ℕ → StepMeaning
step_of s i j = record { target = s.target i j; reads = listing (s.read i j) (s.read_count i j) }

abbrev pub item_of : WorkShape → ℕ → ItemMeaning
item_of s i = record
    { preds = s.preds i; next = listing (s.next i) (s.next_count i); steps = listing (step_of s i) (s.steps i) }

unfoldable pub listed : WorkShape → Meaning
listed s = record {
  kinds = listing s.kind s.cells;
  items = listing (item_of s) s.items;
  solution = listing s.value s.cells;
  max_reads = s.max_reads;
  max_stack = s.max_stack;
}

-- the item has this step
pub record HasStep (s : WorkShape) (i j : ℕ) : Type 0 where
  pub item : i < s.items
  pub step : j < s.steps i

-- the first item has the second in its list
pub record ComesNext (s : WorkShape) (p i : ℕ) : Type 0 where
  pub known : p < s.items
  pub at : ℕ
  pub below : at < s.next_count p
  pub is : s.next p at ≡ i

-- the cell is the target of an earlier step of the item
pub record IsOwnCell (s : WorkShape) (i j c : ℕ) : Type 0 where
  pub step : ℕ
  pub earlier : step < j
  pub is : s.target i step ≡ c

-- the cell is a target of a direct predecessor
pub record IsPassedCell (s : WorkShape) (i c : ℕ) : Type 0 where
  pub item : ℕ
  pub step : ℕ
  pub next : ComesNext s item i
  pub known : HasStep s item step
  pub is : s.target item step ≡ c

-- the cell is the target of a step
pub record IsFilledBy (s : WorkShape) (c : ℕ) : Type 0 where
  pub item : ℕ
  pub step : ℕ
  pub known : HasStep s item step
  pub is : s.target item step ≡ c

-- lawful work, of the functions
pub record IsLawfulWorkShape (s : WorkShape) : Type 0 where
  pub values : (c : ℕ) → c < s.cells → IsValue (s.value c)
  pub next_in_range : (i k : ℕ) → i < s.items → k < s.next_count i → s.next i k < s.items
  pub next_is_later : (i k : ℕ) → i < s.items → k < s.next_count i → i < s.next i k
  pub next_once : (i k l : ℕ) → i < s.items → k < s.next_count i → l < s.next_count i → s.next i k ≡ s.next i l
      → k ≡ l
  pub counts : (i : ℕ) → i < s.items → Counts (λ p. ComesNext s p i) i (s.preds i)
  pub target_in_range : (i j : ℕ) → HasStep s i j → s.target i j < s.cells
  pub target_kind : (i j : ℕ) → HasStep s i j → s.kind (s.target i j) ≡ Target
  pub target_once : (i j k l : ℕ) → HasStep s i j → HasStep s k l → s.target i j ≡ s.target k l → (i ≡ k) × (j ≡ l)
  pub each_target : (c : ℕ) → c < s.cells → s.kind c ≡ Target → IsFilledBy s c
  pub read_in_range : (i j r : ℕ) → HasStep s i j → r < s.read_count i j → s.read i j r < s.cells
  pub readable : (i j r : ℕ) → HasStep s i j → r < s.read_count i j
      → (s.kind (s.read i j r) ≡ Given) ⊎ IsOwnCell s i j (s.read i j r) ⊎ IsPassedCell s i (s.read i j r)
  pub few_reads : (i j : ℕ) → HasStep s i j → s.read_count i j ≤ s.max_reads
  pub counted : (i : ℕ) → i < s.items → (s.next_count i < 2 ^ 32) × (s.steps i < 2 ^ 32)
  pub reads_counted : (i j : ℕ) → HasStep s i j → s.read_count i j < 2 ^ 32
