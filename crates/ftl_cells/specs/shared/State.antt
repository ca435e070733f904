-- The state of a stage, on the words of a table and the states of all hands, and its steps.
use Rattle.std.specs.Prelude.{◌≡◌, ◌≢◌, ℕ, zero, suc, ◌+◌, ◌<◌, List, [], ◌∷◌, ◌++◌, length, map, replicate}
use Rattle.std.specs.Prelude.{slice_index, slice_set, Option, Some, None}
use Rattle.std.specs.List.{range_with_len}
use mathlib.Core.Option.{some}
use lib.ListN.{get_elem?}
use Rattle.ftl_cells.specs.shared.Work.{Meaning, no_work, cell_total, kind_at, item_total, pred_total, next_total, next_at}
use Rattle.ftl_cells.specs.shared.Work.{step_total, target_of, read_total, read_of, solved_word}
use Rattle.ftl_cells.specs.declared.shared.kind.CellKind.{CellKind}
use Rattle.ftl_cells.specs.declared.shared.kind.CellKind.TheVariants.{Given, Target, Later}
use Rattle.ftl_cells.specs.declared.shared.place.HandPlace.{HandPlace}
use Rattle.ftl_cells.specs.declared.shared.place.HandPlace.TheVariants.{Idle, Looked, Working, Filled, Sending, Ended}

-- the word of the common end's counter, of a cell, of an item's state and of an item's counter
abbrev pub end_word : ℕ
end_word = 0

abbrev pub cell_word : ℕ → ℕ
cell_word c = 1 + c

abbrev pub state_word : Meaning → ℕ → ℕ
state_word m i = 1 + cell_total m + i

abbrev pub count_word : Meaning → ℕ → ℕ
count_word m i = 1 + cell_total m + item_total m + i

abbrev pub word_total : Meaning → ℕ
word_total m = 1 + cell_total m + item_total m + item_total m

-- where a hand is, or that it was given up
pub data Place : Type 0 where
  live : HandPlace → Place
  spent : Place

-- the kinds of step: load of a counter, claim, load of a cell, store of a cell, mark, delivery, split and join
pub data StepKind : Type 0 where
  load_counter : StepKind
  claim : StepKind
  load_cell : StepKind
  store_cell : StepKind
  mark : StepKind
  delivery : StepKind
  split : StepKind
  join : StepKind

-- a step: its kind, the word, and the number that the word held just before, where that is told
pub record OneStep : Type 0 where
  pub kind : StepKind
  pub word : ℕ
  pub held : Option ℕ

-- what a hand knows: its work, its name, its place, its last step, the count of its steps, how many steps the hands
-- made that it took in, and the items that it released
pub record HandState : Type 0 where
  pub of : Meaning
  pub name : List ℕ
  pub place : Place
  pub last : Option OneStep
  pub count : ℕ
  pub taken : ℕ
  pub released : List ℕ

-- a hand of this name that has made no step
abbrev pub newcomer : Meaning → List ℕ → HandState
newcomer m name =
    record { of = m; name = name; place = live Idle; last = None; count = 0; taken = 0; released = [] }

-- the name of the first hand
abbrev pub first_name : List ℕ
first_name = []

-- the name of a hand that this one makes: its own, and then how many steps it has made
abbrev pub next_name : HandState → List ℕ
next_name v = v.name ++ v.count ∷ []

-- a hand that was given up
abbrev pub given_up : HandState
given_up = record
    { of = no_work; name = first_name; place = spent; last = None; count = 0; taken = 0; released = [] }

-- a hand after one more step, at this place
abbrev pub after : HandState → Place → StepKind → ℕ → Option ℕ → HandState
after v place kind word held = record {
  of = v.of;
  name = v.name;
  place = place;
  last = Some (record { kind = kind; word = word; held = held });
  count = v.count + 1;
  taken = v.taken;
  released = v.released;
}

-- a hand after it took in another
abbrev pub after_join : HandState → HandState → HandState
after_join v other = record {
  of = v.of;
  name = v.name;
  place = v.place;
  last = Some (record { kind = join; word = end_word; held = None });
  count = v.count + 1;
  taken = v.taken + other.count + other.taken;
  released = v.released;
}

-- the list of released items after a delivery that left this number in the item's counter
abbrev pub released_after : List ℕ → ℕ → ℕ → List ℕ
released_after released item zero = released ++ item ∷ []
released_after released item (suc left) = released

-- a hand after a delivery to an item
abbrev pub after_delivery : HandState → ℕ → ℕ → ℕ → ℕ → ℕ → HandState
after_delivery v item sent next word left = record {
  of = v.of;
  name = v.name;
  place = live (Sending item (sent + 1));
  last = Some (record { kind = delivery; word = word; held = Some (suc left) });
  count = v.count + 1;
  taken = v.taken;
  released = released_after v.released next left;
}

-- the place is Filled this item or Sending it, with so many sent
abbrev pub Sends : Place → ℕ → ℕ → Type 0
Sends (live (Filled item)) i k = (item ≡ i) × (0 ≡ k)
Sends (live (Sending item sent)) i k = (item ≡ i) × (sent ≡ k)
Sends p i k = ⊥

-- the place is Idle or Ended
abbrev pub IsFree : Place → Type 0
IsFree (live Idle) = Unit {0}
IsFree (live Ended) = Unit {0}
IsFree p = ⊥

-- one step of one hand: the words before, the hand before, the words after and the hand after
pub data Steps (m : Meaning) (words : List ℕ) (v : HandState) : List ℕ → HandState → Type 0 where
  finds_ready : (i : ℕ) → v.place ≡ live Idle → i < item_total m → slice_index words (count_word m i) ≡ 0
      → Steps m words v words (after v (live (Looked i)) load_counter (count_word m i) (Some 0))
  finds_waiting : (i : ℕ) → v.place ≡ live Idle → i < item_total m → slice_index words (count_word m i) ≢ 0
      → Steps m words v words
      (after v (live Idle) load_counter (count_word m i) (Some (slice_index words (count_word m i))))
  claims : (i : ℕ) → v.place ≡ live (Looked i) → slice_index words (state_word m i) ≡ 0
      → Steps m words v (slice_set words (state_word m i) 1)
      (after v (live (Working i 0 0)) claim (state_word m i) (Some 0))
  misses : (i : ℕ) → v.place ≡ live (Looked i) → slice_index words (state_word m i) ≢ 0
      → Steps m words v words (after v (live Idle) claim (state_word m i) (Some (slice_index words (state_word m i))))
  reads : (i j r : ℕ) → v.place ≡ live (Working i j r) → j < step_total m i → r < read_total m i j
      → Steps m words v words
      (after v (live (Working i j (r + 1))) load_cell (cell_word (read_of m i j r))
      (Some (slice_index words (cell_word (read_of m i j r)))))
  fills : (i j r : ℕ) → v.place ≡ live (Working i j r) → j < step_total m i → r ≡ read_total m i j
      → Steps m words v (slice_set words (cell_word (target_of m i j)) (solved_word m (target_of m i j)))
      (after v (live (Working i (j + 1) 0)) store_cell (cell_word (target_of m i j))
      (Some (slice_index words (cell_word (target_of m i j)))))
  marks : (i j r : ℕ) → v.place ≡ live (Working i j r) → j ≡ step_total m i
      → Steps m words v (slice_set words (state_word m i) 2)
      (after v (live (Filled i)) mark (state_word m i) (Some (slice_index words (state_word m i))))
  sends : (i k left : ℕ) → Sends v.place i k → k < next_total m i
      → slice_index words (count_word m (next_at m i k)) ≡ suc left
      → Steps m words v (slice_set words (count_word m (next_at m i k)) left)
      (after_delivery v i k (next_at m i k) (count_word m (next_at m i k)) left)
  finishes : (i k left : ℕ) → Sends v.place i k → k ≡ next_total m i → slice_index words end_word ≡ suc left
      → Steps m words v (slice_set words end_word left) (after v (live Idle) delivery end_word (Some (suc left)))
  ends : v.place ≡ live Idle → slice_index words end_word ≡ 0
      → Steps m words v words (after v (live Ended) load_counter end_word (Some 0))
  finds_left : v.place ≡ live Idle → slice_index words end_word ≢ 0
      → Steps m words v words (after v (live Idle) load_counter end_word (Some (slice_index words end_word)))

-- one step of any hand, where a split makes a new hand and a join gives one up
pub data Makes (m : Meaning) (words : List ℕ) (hands : List HandState) : List ℕ → List HandState → Type 0 where
  steps : (h : ℕ) (v w : HandState) (next : List ℕ) → get_elem? hands h ≡ some v → Steps m words v next w
      → Makes m words hands next (slice_set hands h w)
  splits : (h : ℕ) (v : HandState) → get_elem? hands h ≡ some v → v.place ≡ live Idle
      → Makes m words hands words
      (slice_set hands h (after v v.place split end_word None) ++ newcomer m (next_name v) ∷ [])
  joins : (h other : ℕ) (v w : HandState) → other ≢ h → get_elem? hands h ≡ some v → get_elem? hands other ≡ some w
      → IsFree v.place → IsFree w.place
      → Makes m words hands words (slice_set (slice_set hands h (after_join v w)) other given_up)

-- what a cell holds at the opening: the solution's word where it is Given, and 0 elsewhere
abbrev pub first_word_of : CellKind → ℕ → ℕ
first_word_of Given n = n
first_word_of Target n = 0
first_word_of Later n = 0

-- what a cell holds at the end: the solution's word where it is Given or Target, and 0 elsewhere
abbrev pub last_word_of : CellKind → ℕ → ℕ
last_word_of Given n = n
last_word_of Target n = n
last_word_of Later n = 0

-- the words of the cells before the work
pub record AreFirst (m : Meaning) (words : List ℕ) : Type 0 where
  pub count : length words ≡ cell_total m
  pub each : (c : ℕ) → c < cell_total m → slice_index words c ≡ first_word_of (kind_at m c) (solved_word m c)

-- the words of the cells after the work
pub record AreLast (m : Meaning) (words : List ℕ) : Type 0 where
  pub count : length words ≡ cell_total m
  pub each : (c : ℕ) → c < cell_total m → slice_index words c ≡ last_word_of (kind_at m c) (solved_word m c)

-- the words of a table at the opening
pub record IsOpening (m : Meaning) (words : List ℕ) : Type 0 where
  pub count : length words ≡ word_total m
  pub end : slice_index words end_word ≡ item_total m
  pub cells : (c : ℕ) → c < cell_total m
      → slice_index words (cell_word c) ≡ first_word_of (kind_at m c) (solved_word m c)
  pub states : (i : ℕ) → i < item_total m → slice_index words (state_word m i) ≡ 0
  pub counters : (i : ℕ) → i < item_total m → slice_index words (count_word m i) ≡ pred_total m i

-- the states that steps lead to from an opening with one hand
pub data Reached (m : Meaning) : List ℕ → List HandState → Type 0 where
  begins : (words : List ℕ) → IsOpening m words → Reached m words (newcomer m first_name ∷ [])
  goes_on : {words next : List ℕ} {hands more : List HandState} → Reached m words hands
      → Makes m words hands next more → Reached m next more

-- the words of a table at the opening, in order, where these are the words of the cells
abbrev pub opening_words : Meaning → List ℕ → List ℕ
opening_words m words =
    item_total m ∷ [] ++ words ++ replicate (item_total m) 0 ++ map (pred_total m) (range_with_len 0 (item_total m))
