-- Steps of any hands in any order: what one step of a hand is, what the words tell at any moment, and what stays.
use Rattle.std.specs.Prelude.{◌≡◌, ◌≢◌, ℕ, ◌<◌, List, length, slice_index}
use Rattle.ftl_cells.specs.shared.Work.{Meaning, cell_total, kind_at, item_total, step_total, target_of, read_total, read_of}
use Rattle.ftl_cells.specs.shared.Work.{solved_word, IsNext}
use mathlib.Core.Option.{some}
use lib.ListN.{get_elem?}
use Rattle.ftl_cells.specs.shared.State.{live, spent, HandState, Makes, Reached, cell_word, state_word, last_word_of}
use Rattle.ftl_cells.specs.shared.Kept.{hand_at}
use Rattle.ftl_cells.specs.declared.shared.place.HandPlace.TheVariants.{Looked, Working}

-- any number of steps of any hands, also none
pub data LeadsTo (m : Meaning) (words : List ℕ) (hands : List HandState) : List ℕ → List HandState → Type 0 where
  stays : LeadsTo m words hands words hands
  goes_further : {next last : List ℕ} {more most : List HandState} → LeadsTo m words hands next more
      → Makes m next more last most → LeadsTo m words hands last most

-- one step takes a hand from one state to another: there is a state of the words and all hands that steps lead to, in
-- which a hand is at the first, and a step from there after which this hand is at the second
pub record IsNextState (v w : HandState) : Type 0 where
  pub words : List ℕ
  pub hands : List HandState
  pub next : List ℕ
  pub more : List HandState
  pub hand : ℕ
  pub reached : Reached v.of words hands
  pub before : get_elem? hands hand ≡ some v
  pub made : Makes v.of words hands next more
  pub after : get_elem? more hand ≡ some w

-- the hand was made, and was not given up
abbrev pub IsThere : List HandState → ℕ → Type 0
IsThere hands h = (hand_at hands h).place ≢ spent

-- each of the items waits for others, and stands once in the list
pub record AreReleasedOnce (m : Meaning) (items : List ℕ) : Type 0 where
  pub known : (k : ℕ) → k < length items → slice_index items k < item_total m
  pub preceded : (k : ℕ) → k < length items → (p : ℕ) × IsNext m p (slice_index items k)
  pub once : (k l : ℕ) → k < length items → l < length items → slice_index items k ≡ slice_index items l → k ≡ l

-- one step, by which a hand that looked at an item comes to work on it
pub record WinsClaim (m : Meaning) (words : List ℕ) (hands : List HandState) (h i : ℕ) (next : List ℕ)
    (more : List HandState) : Type 0 where
  pub made : Makes m words hands next more
  pub looked : (hand_at hands h).place ≡ live (Looked i)
  pub mine : (hand_at more h).place ≡ live (Working i 0 0)

-- a cell that a hand is about to read holds the solution's word
abbrev pub ReadsFindValues : Meaning → List ℕ → List HandState → Type 0
ReadsFindValues m words hands = (h i j r : ℕ) → (hand_at hands h).place ≡ live (Working i j r) → j < step_total m i
    → r < read_total m i j → slice_index words (cell_word (read_of m i j r)) ≡ solved_word m (read_of m i j r)

-- a cell that a hand is about to fill is empty
abbrev pub FillsFindEmpty : Meaning → List ℕ → List HandState → Type 0
FillsFindEmpty m words hands = (h i j r : ℕ) → (hand_at hands h).place ≡ live (Working i j r) → j < step_total m i
    → slice_index words (cell_word (target_of m i j)) ≡ 0

-- an item that was claimed is never free again
abbrev pub ClaimsStay : Meaning → List ℕ → List ℕ → Type 0
ClaimsStay m words next = (i : ℕ) → i < item_total m → slice_index words (state_word m i) ≢ 0
    → slice_index next (state_word m i) ≢ 0

-- each item was claimed and filled
abbrev pub AllFilled : Meaning → List ℕ → Type 0
AllFilled m words = (i : ℕ) → i < item_total m → slice_index words (state_word m i) ≡ 2

-- each Given and each Target cell holds the solution's word, and each Later cell 0
abbrev pub HoldSolution : Meaning → List ℕ → Type 0
HoldSolution m words = (c : ℕ) → c < cell_total m
    → slice_index words (cell_word c) ≡ last_word_of (kind_at m c) (solved_word m c)
