-- Which of the items that wait for none each worker of a stage starts with.
use Rattle.std.specs.Prelude.{◌≡◌, ◌↔◌, ℕ, ◌+◌, ◌*◌, ◌<◌, ◌≤◌, List, length, map, eqb, slice_index, slice_index_or, []}
use Rattle.std.specs.List.{All, filter, range_with_len}
use Rattle.ftl_cells.specs.shared.Work.{Meaning, item_total, pred_total}
use Rattle.ftl_pool.specs.Count.{PoolModel}
use Rattle.ftl_pool.specs.Pool.{StealHoldModel, IsHoldOf}

-- the items below this number that wait for none, in order
abbrev pub free_below : Meaning → ℕ → List ℕ
free_below m n = filter (λ item. eqb (pred_total m item) 0) (range_with_len 0 n)

-- the items of a work that wait for none, in order
abbrev pub free_items : Meaning → List ℕ
free_items m = free_below m (item_total m)

-- of a list that is dealt round by round to so many workers, this one has these items: that at its own number, and each
-- that stands so many rounds further on
pub record IsDealt (free : List ℕ) (workers worker : ℕ) (items : List ℕ) : Type 0 where
  pub count : (round : ℕ) → (round < length items) ↔ (worker + round * workers < length free)
  pub each : (round : ℕ) → round < length items → slice_index items round ≡ slice_index free (worker + round * workers)

-- these lists are those that the workers have, the first worker's first
abbrev pub AreDealt : List ℕ → List (List ℕ) → Type 0
AreDealt free lists = (worker : ℕ) → worker < length lists
    → IsDealt free (length lists) worker (slice_index_or lists worker [])

-- the items that were put through each of these holds
abbrev pub puts_of : List StealHoldModel → List (List ℕ)
puts_of holds = map (λ (h : StealHoldModel). h.hold.puts) holds

-- the hold is one of this pool, and through it items alone were put that wait for none and are below this number
pub record HasFreeBelow (m : Meaning) (pool : PoolModel) (item : ℕ) (steal : StealHoldModel) : Type 0 where
  pub made : IsHoldOf pool steal.hold
  pub free : All (λ x. pred_total m x ≡ 0) steal.hold.puts
  pub below : All (λ x. x < item) steal.hold.puts

-- of so many workers the turn after this one's is the next one's, and after the last one's the first one's
pub record IsNextTurn (workers turn next : ℕ) : Type 0 where
  pub on : turn + 1 < workers → next ≡ turn + 1
  pub around : workers ≤ turn + 1 → next ≡ 0
