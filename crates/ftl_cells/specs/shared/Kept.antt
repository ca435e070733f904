-- What holds between any two steps of any number of hands.
use Rattle.std.specs.Prelude.{◌≡◌, ◌≢◌, ℕ, ◌<◌, ◌≤◌, ◌⊎◌, List, length, slice_index, slice_index_or}
use Rattle.ftl_cells.specs.shared.Count.{Counts}
use Rattle.ftl_cells.specs.shared.Work.{Meaning, cell_total, kind_at, item_total, next_total, next_at, step_total, target_of}
use Rattle.ftl_cells.specs.shared.Work.{read_total, solved_word, IsStepOfItem, IsNext}
use Rattle.ftl_cells.specs.shared.State.{Place, live, HandState, given_up, Sends, end_word, cell_word, state_word, count_word}
use Rattle.ftl_cells.specs.shared.State.{word_total}
use Rattle.ftl_cells.specs.declared.shared.kind.CellKind.{CellKind}
use Rattle.ftl_cells.specs.declared.shared.kind.CellKind.TheVariants.{Given, Target, Later}
use Rattle.ftl_cells.specs.declared.shared.place.HandPlace.TheVariants.{Looked, Working, Filled, Sending, Ended}

-- the state of a stage by what its words are for: the cells, the state and the counter of each item, and the common
-- end's counter; and of each hand its place and the items that it released
pub record Stage : Type 0 where
  pub cell : ℕ → ℕ
  pub state : ℕ → ℕ
  pub counter : ℕ → ℕ
  pub end : ℕ
  pub place : ℕ → Place
  pub released : ℕ → List ℕ

abbrev pub hand_at : List HandState → ℕ → HandState
hand_at hands h = slice_index_or hands h given_up

abbrev pub stage_now : Meaning → List ℕ → List HandState → Stage
stage_now m words hands = record {
  cell = λ c. slice_index words (cell_word c);
  state = λ i. slice_index words (state_word m i);
  counter = λ i. slice_index words (count_word m i);
  end = slice_index words end_word;
  place = λ h. (hand_at hands h).place;
  released = λ h. (hand_at hands h).released;
}

-- the place is Looked this item
abbrev pub Looks : Place → ℕ → Type 0
Looks (live (Looked item)) i = item ≡ i
Looks p i = ⊥

-- the place is Working this item, at this step
abbrev pub IsWorkingAt : Place → ℕ → ℕ → Type 0
IsWorkingAt (live (Working item step reads)) i j = (item ≡ i) × (step ≡ j)
IsWorkingAt p i j = ⊥

-- the place is Ended
abbrev pub HasEnded : Place → Type 0
HasEnded (live Ended) = Unit {0}
HasEnded p = ⊥

-- the place is Working, Filled or Sending this item
abbrev pub HasItem : Place → ℕ → Type 0
HasItem (live (Working item step reads)) i = item ≡ i
HasItem (live (Filled item)) i = item ≡ i
HasItem (live (Sending item sent)) i = item ≡ i
HasItem p i = ⊥

-- numbers in places are in range
abbrev pub IsInRange : Meaning → Place → Type 0
IsInRange m (live (Looked item)) = item < item_total m
IsInRange m (live (Working item step reads)) = (item < item_total m) × (step ≤ step_total m item) ×
    (reads ≤ read_total m item step)
IsInRange m (live (Filled item)) = item < item_total m
IsInRange m (live (Sending item sent)) = (item < item_total m) × (sent ≤ next_total m item)
IsInRange m p = Unit {0}

-- what a cell may hold, where this is the solution's word
abbrev pub CellHolds : CellKind → ℕ → ℕ → Type 0
CellHolds Given n word = n ≡ word
CellHolds Target n word = (n ≡ 0) ⊎ (n ≡ word)
CellHolds Later n word = n ≡ 0

-- some hand is Working the item
abbrev pub IsClaimed : Stage → ℕ → Type 0
IsClaimed s i = (h : ℕ) × (j : ℕ) × IsWorkingAt (s.place h) i j

-- of an item that a hand is Working at this step, just the targets of the steps before are filled
pub record IsHalfFilled (m : Meaning) (s : Stage) (i j : ℕ) : Type 0 where
  pub state : s.state i ≡ 1
  pub before : (n : ℕ) → n < j → n < step_total m i → s.cell (target_of m i n) ≢ 0
  pub rest : (n : ℕ) → j ≤ n → n < step_total m i → s.cell (target_of m i n) ≡ 0

-- An item has delivered to another: it is filled, and each hand that is Filled or Sending it has sent to the place of
-- the other in its list, where places count from 0
pub record HasDelivered (m : Meaning) (s : Stage) (p i : ℕ) : Type 0 where
  pub state : s.state p ≡ 2
  pub sent : (h k at : ℕ) → Sends (s.place h) p k → at < next_total m p → next_at m p at ≡ i → at < k

-- an item is a predecessor of another, and has not delivered to it
pub record Owes (m : Meaning) (s : Stage) (i p : ℕ) : Type 0 where
  pub next : IsNext m p i
  pub waits : HasDelivered m s p i → ⊥

-- an item is not filled, or a hand is Filled or Sending it
abbrev pub IsUndone : Stage → ℕ → Type 0
IsUndone s p = (s.state p ≢ 2) ⊎ ((h : ℕ) × (k : ℕ) × Sends (s.place h) p k)

-- each released item has a predecessor and the counter 0, and stands once in the list
pub record AreReleased (m : Meaning) (s : Stage) (items : List ℕ) : Type 0 where
  pub known : (k : ℕ) → k < length items → slice_index items k < item_total m
  pub zero : (k : ℕ) → k < length items → s.counter (slice_index items k) ≡ 0
  pub preceded : (k : ℕ) → k < length items → (p : ℕ) × IsNext m p (slice_index items k)
  pub once : (k l : ℕ) → k < length items → l < length items → slice_index items k ≡ slice_index items l → k ≡ l

-- The kept rule
pub record IsKept (m : Meaning) (s : Stage) : Type 0 where
  pub in_range : (h : ℕ) → IsInRange m (s.place h)
  -- each Given cell holds the solution's word, each Target cell that or 0, and each Later cell 0
  pub cells : (c : ℕ) → c < cell_total m → CellHolds (kind_at m c) (s.cell c) (solved_word m c)
  -- an item is free, claimed or filled: at 0 all its targets are empty, at 2 none is, and it is 1 exactly where a
  -- hand is Working it
  pub states : (i : ℕ) → i < item_total m → s.state i ≤ 2
  pub free : (i j : ℕ) → IsStepOfItem m i j → s.state i ≡ 0 → s.cell (target_of m i j) ≡ 0
  pub full : (i j : ℕ) → IsStepOfItem m i j → s.state i ≡ 2 → s.cell (target_of m i j) ≢ 0
  pub claimed : (i : ℕ) → i < item_total m → s.state i ≡ 1 → IsClaimed s i
  pub working : (h i j : ℕ) → IsWorkingAt (s.place h) i j → IsHalfFilled m s i j
  -- a hand is Filled or Sending an item only where it is filled, and no two hands have one item
  pub sending : (h i k : ℕ) → Sends (s.place h) i k → s.state i ≡ 2
  pub alone : (h g i : ℕ) → HasItem (s.place h) i → HasItem (s.place g) i → h ≡ g
  -- an item's counter is the number of its predecessors that have not delivered to it, and the common end's that of
  -- the items that are not done
  pub counters : (i : ℕ) → i < item_total m → Counts (Owes m s i) i (s.counter i)
  pub end : Counts (IsUndone s) (item_total m) s.end
  -- an item that a hand Looked at, or that is not free, waits for none; and where a hand is Ended, the common end's
  -- counter is 0
  pub looked : (h i : ℕ) → Looks (s.place h) i → s.counter i ≡ 0
  pub started : (i : ℕ) → i < item_total m → s.state i ≢ 0 → s.counter i ≡ 0
  pub ended : (h : ℕ) → HasEnded (s.place h) → s.end ≡ 0
  -- the lists of released items
  pub released : (h : ℕ) → AreReleased m s (s.released h)

-- the same of the words of a table and the states of all hands
pub record IsKeptBy (m : Meaning) (words : List ℕ) (hands : List HandState) : Type 0 where
  pub count : length words ≡ word_total m
  pub rule : IsKept m (stage_now m words hands)
