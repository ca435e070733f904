-- What each call asks of its hand, and what its one step makes of it.
use Rattle.std.specs.Prelude.{◌≡◌, ◌≢◌, ℕ, zero, suc, ◌+◌, ◌<◌, ◌⊎◌, ◌↔◌, Bool, IsTrue, Some}
use Rattle.ftl_model.specs.layout.Values.{Value}
use Rattle.atomic_table.specs.Seated.{TableId}
use Rattle.ftl_cells.specs.shared.Work.{Meaning, next_total, next_at, step_total, target_of, read_total, read_of, solution_at}
use Rattle.ftl_cells.specs.shared.State.{Place, live, HandState, after, after_delivery, load_counter, claim, load_cell}
use Rattle.ftl_cells.specs.shared.State.{store_cell, mark, delivery, end_word, cell_word, state_word, count_word}
use Rattle.ftl_cells.specs.declared.shared.place.HandPlace.TheVariants.{Idle, Looked, Working, Filled, Sending, Ended}
use Rattle.ftl_cells.specs.declared.shared.answer.Look.{Look}
use Rattle.ftl_cells.specs.declared.shared.answer.Look.TheVariants.{Ready, NotYet}
use Rattle.ftl_cells.specs.declared.shared.answer.Claim.{Claim}
use Rattle.ftl_cells.specs.declared.shared.answer.Claim.TheVariants.{Mine, Taken}
use Rattle.ftl_cells.specs.declared.shared.answer.Deliver.{Deliver}
use Rattle.ftl_cells.specs.declared.shared.answer.Deliver.TheVariants.{Sent, Finished}

-- a hand as contracts see it: which cells it is of, and its state
pub record HandModel : Type 0 where
  pub table : TableId
  pub state : HandState

-- the hand is one that these cells made, for this work
abbrev pub IsMadeBy : Meaning → TableId → HandModel → Type 0
IsMadeBy m table hand = (hand.table ≡ table) × (hand.state.of ≡ m)

-- the place is Looked
abbrev pub CanClaim : Place → Type 0
CanClaim (live (Looked item)) = Unit {0}
CanClaim p = ⊥

-- the place is Working, with reads left in its step
abbrev pub CanRead : Meaning → Place → Type 0
CanRead m (live (Working item step reads)) = (step < step_total m item) × (reads < read_total m item step)
CanRead m p = ⊥

-- the cell is that of the next read
abbrev pub IsNextRead : Meaning → Place → ℕ → Type 0
IsNextRead m (live (Working item step reads)) cell = cell ≡ read_of m item step reads
IsNextRead m p cell = ⊥

-- the place is Working, with all reads of its step done, and this is the solution's value at the step's target
abbrev pub CanFill : Meaning → Place → Value → Type 0
CanFill m (live (Working item step reads)) v = (step < step_total m item) × (reads ≡ read_total m item step) ×
    (v ≡ solution_at m (target_of m item step))
CanFill m p v = ⊥

-- the cell is the target of the step
abbrev pub IsNextTarget : Meaning → Place → ℕ → Type 0
IsNextTarget m (live (Working item step reads)) cell = cell ≡ target_of m item step
IsNextTarget m p cell = ⊥

-- the place is Working, with all steps filled
abbrev pub CanMark : Meaning → Place → Type 0
CanMark m (live (Working item step reads)) = step ≡ step_total m item
CanMark m p = ⊥

-- the place is Filled or Sending
abbrev pub CanDeliver : Place → Type 0
CanDeliver (live (Filled item)) = Unit {0}
CanDeliver (live (Sending item sent)) = Unit {0}
CanDeliver p = ⊥

-- a load of the item's counter: Ready where it held 0, and NotYet with the number that it held elsewhere
abbrev pub LookSteps : HandState → ℕ → Look → HandState → Type 0
LookSteps v item Ready w = w ≡ after v (live (Looked item)) load_counter (count_word v.of item) (Some 0)
LookSteps v item (NotYet n) w = (n ≢ 0) × (w ≡ after v (live Idle) load_counter (count_word v.of item) (Some n))

-- a compare-exchange of the item's state from 0 to 1: Mine where it held 0, and Taken with the number that it held
-- elsewhere
abbrev pub ClaimSteps : HandState → Place → Claim → HandState → Type 0
ClaimSteps v (live (Looked item)) Mine w = w ≡ after v (live (Working item 0 0)) claim (state_word v.of item) (Some 0)
ClaimSteps v (live (Looked item)) (Taken n) w = ((n ≡ 1) ⊎ (n ≡ 2)) ×
    (w ≡ after v (live Idle) claim (state_word v.of item) (Some n))
ClaimSteps v p answer w = Unit {0}

-- the solution's value at the next read
abbrev pub ReadAnswers : Meaning → Place → Value → Type 0
ReadAnswers m (live (Working item step reads)) v = v ≡ solution_at m (read_of m item step reads)
ReadAnswers m p v = Unit {0}

-- a load of the cell of the next read, which holds the word of this value
abbrev pub ReadSteps : HandState → Place → ℕ → HandState → Type 0
ReadSteps v (live (Working item step reads)) n w = w ≡ after v (live (Working item step (reads + 1))) load_cell
    (cell_word (read_of v.of item step reads)) (Some n)
ReadSteps v p n w = Unit {0}

-- a store in the step's target, which was empty
abbrev pub FillSteps : HandState → Place → HandState → Type 0
FillSteps v (live (Working item step reads)) w = w ≡ after v (live (Working item (step + 1) 0)) store_cell
    (cell_word (target_of v.of item step)) (Some 0)
FillSteps v p w = Unit {0}

-- a store of 2 in the item's state, which was 1
abbrev pub MarkSteps : HandState → Place → HandState → Type 0
MarkSteps v (live (Working item step reads)) w = w ≡ after v (live (Filled item)) mark (state_word v.of item) (Some 1)
MarkSteps v p w = Unit {0}

-- one is taken from the counter of the next item, and the delivery is the last where none is left
pub record SendsOn (v : HandState) (item sent next : ℕ) (last : Bool) (w : HandState) : Type 0 where
  pub below : sent < next_total v.of item
  pub to : next ≡ next_at v.of item sent
  pub left : ℕ
  pub is_last : IsTrue last ↔ (left ≡ 0)
  pub step : w ≡ after_delivery v item sent next (count_word v.of next) left

-- one is taken from the common end's counter, after the last delivery to an item
pub record SendsLast (v : HandState) (item sent : ℕ) (w : HandState) : Type 0 where
  pub done : sent ≡ next_total v.of item
  pub left : ℕ
  pub step : w ≡ after v (live Idle) delivery end_word (Some (suc left))

-- a delivery of an item that was sent so many times
abbrev pub DeliversFrom : HandState → ℕ → ℕ → Deliver → HandState → Type 0
DeliversFrom v item sent (Sent next last) w = SendsOn v item sent next last w
DeliversFrom v item sent Finished w = SendsLast v item sent w

abbrev pub DeliverSteps : HandState → Place → Deliver → HandState → Type 0
DeliverSteps v (live (Filled item)) answer w = DeliversFrom v item 0 answer w
DeliverSteps v (live (Sending item sent)) answer w = DeliversFrom v item sent answer w
DeliverSteps v p answer w = Unit {0}

-- a load of the common end's counter, which held this number
abbrev pub LeftSteps : HandState → ℕ → HandState → Type 0
LeftSteps v zero w = w ≡ after v (live Ended) load_counter end_word (Some 0)
LeftSteps v (suc n) w = w ≡ after v (live Idle) load_counter end_word (Some (suc n))
