-- The step on shared cells that each event asks for, and where it is one.
use Rattle.std.specs.Prelude.{◌≡◌, ◌≢◌, ℕ, ◌<◌, List, ◌∷◌, [], ◌++◌, slice_index_or, slice_set, Some, None}
use mathlib.Core.Option.{some}
use lib.ListN.{get_elem?}
use Rattle.ftl_cells.specs.shared.Work.{Meaning, item_total, step_total, read_total}
use Rattle.ftl_cells.specs.shared.State.{Place, live, spent, OneStep, HandState, newcomer, next_name, given_up, after}
use Rattle.ftl_cells.specs.shared.State.{after_join, load_counter, claim, load_cell, store_cell, mark, delivery, split, join}
use Rattle.ftl_cells.specs.shared.State.{IsFree, Steps, end_word, count_word}
use Rattle.ftl_cells.specs.shared.Calls.{CanClaim, CanRead, CanMark, CanDeliver}
use Rattle.ftl_cells.specs.declared.shared.place.HandPlace.TheVariants.{Idle, Working}
use Rattle.ftl_replay.specs.declared.interleavings.place.ReplayPlace.{ReplayPlace}
use Rattle.ftl_replay.specs.declared.interleavings.place.ReplayPlace.TheVariants.{Live, Spent}
use Rattle.ftl_replay.specs.declared.interleavings.event.Event.{Event}
use Rattle.ftl_replay.specs.declared.interleavings.event.Event.TheVariants.{Look, Claim, Read, Fill, Mark, Deliver, Left, Another}
use Rattle.ftl_replay.specs.declared.interleavings.event.Event.TheVariants.{GiveUp}

-- the hand that makes the step
abbrev pub hand_of : Event → ℕ
hand_of (Look hand item) = hand
hand_of (Claim hand) = hand
hand_of (Read hand) = hand
hand_of (Fill hand) = hand
hand_of (Mark hand) = hand
hand_of (Deliver hand) = hand
hand_of (Left hand) = hand
hand_of (Another hand) = hand
hand_of (GiveUp hand other) = hand

-- the event is a step of its hand alone
abbrev pub IsOwn : Event → Type 0
IsOwn (Another hand) = ⊥
IsOwn (GiveUp hand other) = ⊥
IsOwn event = Unit {0}

-- the step is one that the event asks for, by its kind, and by its word where the kind leaves that open
abbrev pub Asks : Meaning → Event → OneStep → Type 0
Asks m (Look hand item) s = (s.kind ≡ load_counter) × (s.word ≡ count_word m item)
Asks m (Claim hand) s = s.kind ≡ claim
Asks m (Read hand) s = s.kind ≡ load_cell
Asks m (Fill hand) s = s.kind ≡ store_cell
Asks m (Mark hand) s = s.kind ≡ mark
Asks m (Deliver hand) s = s.kind ≡ delivery
Asks m (Left hand) s = (s.kind ≡ load_counter) × (s.word ≡ end_word)
Asks m (Another hand) s = s.kind ≡ split
Asks m (GiveUp hand other) s = s.kind ≡ join

-- one step of shared cells takes a hand from one state to another, and it is one that the event asks for
pub record StepsAsAsked (m : Meaning) (event : Event) (words : List ℕ) (v : HandState) (next : List ℕ) (w : HandState)
    : Type 0 where
  pub step : Steps m words v next w
  pub last : OneStep
  pub is_last : w.last ≡ Some last
  pub asked : Asks m event last

-- the hand of the event makes such a step, and the other hands stay
pub record OneSteps (m : Meaning) (event : Event) (words : List ℕ) (hands : List HandState) (next : List ℕ)
    (more : List HandState) : Type 0 where
  pub before : HandState
  pub now : HandState
  pub there : get_elem? hands (hand_of event) ≡ some before
  pub step : StepsAsAsked m event words before next now
  pub then : more ≡ slice_set hands (hand_of event) now

-- the hand makes another, which comes last
pub record OneSplits (m : Meaning) (hand : ℕ) (words : List ℕ) (hands : List HandState) (next : List ℕ)
    (more : List HandState) : Type 0 where
  pub before : HandState
  pub there : get_elem? hands hand ≡ some before
  pub idle : before.place ≡ live Idle
  pub same : next ≡ words
  pub then : more
      ≡ slice_set hands hand (after before before.place split end_word None) ++ newcomer m (next_name before) ∷ []

-- the hand takes in the other
pub record OneJoins (hand other : ℕ) (words : List ℕ) (hands : List HandState) (next : List ℕ)
    (more : List HandState) : Type 0 where
  pub before : HandState
  pub taken : HandState
  pub apart : other ≢ hand
  pub there : get_elem? hands hand ≡ some before
  pub other_there : get_elem? hands other ≡ some taken
  pub free : IsFree before.place
  pub other_free : IsFree taken.place
  pub same : next ≡ words
  pub then : more ≡ slice_set (slice_set hands hand (after_join before taken)) other given_up

-- the event is the one step from one state of words and hands to another
abbrev pub Does : Meaning → Event → List ℕ → List HandState → List ℕ → List HandState → Type 0
Does m (Look hand item) words hands next more = OneSteps m (Look hand item) words hands next more
Does m (Claim hand) words hands next more = OneSteps m (Claim hand) words hands next more
Does m (Read hand) words hands next more = OneSteps m (Read hand) words hands next more
Does m (Fill hand) words hands next more = OneSteps m (Fill hand) words hands next more
Does m (Mark hand) words hands next more = OneSteps m (Mark hand) words hands next more
Does m (Deliver hand) words hands next more = OneSteps m (Deliver hand) words hands next more
Does m (Left hand) words hands next more = OneSteps m (Left hand) words hands next more
Does m (Another hand) words hands next more = OneSplits m hand words hands next more
Does m (GiveUp hand other) words hands next more = OneJoins hand other words hands next more

-- the place that a vector shows
abbrev pub place_of : ReplayPlace → Place
place_of (Live p) = live p
place_of Spent = spent

-- the place of the hand of this number: spent also where no such hand is there
abbrev pub place_at : List ReplayPlace → ℕ → Place
place_at places hand = place_of (slice_index_or places hand Spent)

-- the place is Idle
abbrev pub IsIdle : Place → Type 0
IsIdle p = p ≡ live Idle

-- the place is Working, with all reads of its step done
abbrev pub HasRead : Meaning → Place → Type 0
HasRead m (live (Working item step reads)) = (step < step_total m item) × (reads ≡ read_total m item step)
HasRead m p = ⊥

-- a hand at this place may make the step of the event
abbrev pub IsPlaceFor : Meaning → Event → Place → Type 0
IsPlaceFor m (Look hand item) p = (p ≡ live Idle) × (item < item_total m)
IsPlaceFor m (Claim hand) p = CanClaim p
IsPlaceFor m (Read hand) p = CanRead m p
IsPlaceFor m (Fill hand) p = HasRead m p
IsPlaceFor m (Mark hand) p = CanMark m p
IsPlaceFor m (Deliver hand) p = CanDeliver p
IsPlaceFor m (Left hand) p = p ≡ live Idle
IsPlaceFor m (Another hand) p = p ≡ live Idle
IsPlaceFor m (GiveUp hand other) p = IsFree p

-- the other hand may be taken in
abbrev pub IsOtherFor : Event → List ReplayPlace → Type 0
IsOtherFor (GiveUp hand other) places = (other ≢ hand) × IsFree (place_at places other)
IsOtherFor event places = Unit {0}

-- with the hands at these places the event is a step
pub record IsStepAt (m : Meaning) (event : Event) (places : List ReplayPlace) : Type 0 where
  pub hand : IsPlaceFor m event (place_at places (hand_of event))
  pub other : IsOtherFor event places
