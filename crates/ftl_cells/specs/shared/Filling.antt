-- How a work drives a filler through the steps of an item, and how a hand goes that is driven so.
use Rattle.std.specs.Prelude.{◌≡◌, ℕ, ◌+◌, ◌⊎◌, Some}
use Rattle.ftl_cells.specs.shared.Work.{Meaning, step_total, target_of, read_of}
use Rattle.ftl_cells.specs.shared.State.{Place, live, HandState, after, load_cell, store_cell, cell_word}
use Rattle.ftl_cells.specs.shared.Interleavings.{IsNextState}
use Rattle.ftl_cells.specs.declared.shared.place.HandPlace.TheVariants.{Working}

-- the place after one more read
abbrev pub place_after_read : Place → Place
place_after_read (live (Working item step reads)) = live (Working item step (reads + 1))
place_after_read p = p

-- the place after a fill
abbrev pub place_after_fill : Place → Place
place_after_fill (live (Working item step reads)) = live (Working item (step + 1) 0)
place_after_fill p = p

-- a load of the cell of the next read, or a store in the step's target, which was empty
abbrev pub ReadsOrFills : HandState → Place → HandState → Type 0
ReadsOrFills v (live (Working item step reads)) w =
    ((n : ℕ) × (w ≡ after v (live (Working item step (reads + 1))) load_cell (cell_word (read_of v.of item step reads))
    (Some n)))
    ⊎ (w ≡ after v (live (Working item (step + 1) 0)) store_cell (cell_word (target_of v.of item step)) (Some 0))
ReadsOrFills v p w = ⊥

-- a hand comes from one state to another by reads and fills alone, each one step of it
pub data Fills (v : HandState) : HandState → Type 0 where
  stays : Fills v v
  goes_on : {w x : HandState} → Fills v w → IsNextState w x → ReadsOrFills w w.place x → Fills v x

-- two such ways, one after the other, are one
pub fills_further : {v w x : HandState} → Fills v w → Fills w x → Fills v x
fills_further a stays = a
fills_further a (goes_on b s r) = goes_on (fills_further a b) s r

-- the place is Working, before the first read of the first step
abbrev pub CanStart : Place → Type 0
CanStart (live (Working item step reads)) = (step ≡ 0) × (reads ≡ 0)
CanStart p = ⊥

-- the second place is Working the item of the first, with all steps filled
abbrev pub IsDoneFrom : Meaning → Place → Place → Type 0
IsDoneFrom m (live (Working item step reads)) q = q ≡ live (Working item (step_total m item) 0)
IsDoneFrom m p q = ⊥
