-- The states that lists of events lead to, from the opening of shared cells.
use Rattle.std.specs.Prelude.{◌≡◌, ℕ, List, [], ◌∷◌, ◌++◌, length, take}
use mathlib.Core.Option.{some}
use lib.ListN.{get_elem?}
use Rattle.ftl_cells.specs.shared.Work.{Meaning, IsLawfulWork, cell_total, item_total}
use Rattle.ftl_cells.specs.shared.State.{live, HandState, newcomer, first_name, opening_words}
use Rattle.ftl_cells.specs.shared.Kept.{hand_at, IsKeptBy}
use Rattle.ftl_cells.specs.declared.shared.place.HandPlace.{HandPlace}
use Rattle.ftl_replay.specs.declared.interleavings.place.ReplayPlace.{ReplayPlace}
use Rattle.ftl_replay.specs.declared.interleavings.fault.ReplayFault.{ReplayFault}
use Rattle.ftl_replay.specs.declared.interleavings.fault.ReplayFault.TheVariants.{NoStep, OutOfMemory}
use Rattle.ftl_replay.specs.declared.interleavings.event.Event.{Event}
use Rattle.ftl_replay.specs.interleavings.Events.{Does, place_at, IsStepAt, StepsAsAsked}

-- the events lead, one step each, from one state of words and hands to another
pub data Lead (m : Meaning) (words : List ℕ) (hands : List HandState) : List Event → List ℕ → List HandState → Type
    0 where
  stays : Lead m words hands [] words hands
  goes_on : {events : List Event} {next last : List ℕ} {more most : List HandState} (event : Event)
      → Lead m words hands events next more → Does m event next more last most
      → Lead m words hands (events ++ event ∷ []) last most

-- the places are those of the hands, in order
pub record ArePlacesOf (hands : List HandState) (places : List ReplayPlace) : Type 0 where
  pub count : length places ≡ length hands
  pub each : (h : ℕ) → place_at places h ≡ (hand_at hands h).place

-- the events lead from the opening over these cells, with one hand, to a state of these words and places
pub record LeadTo (m : Meaning) (cells : List ℕ) (events : List Event) (words : List ℕ) (places : List ReplayPlace)
    : Type 0 where
  pub hands : List HandState
  pub lead : Lead m (opening_words m cells) (newcomer m first_name ∷ []) events words hands
  pub at : ArePlacesOf hands places

-- the words of a table, of the common end's counter, the cells, the states of the items and their counters
abbrev pub row_of : ℕ → List ℕ → List ℕ → List ℕ → List ℕ
row_of end cells states counters = end ∷ [] ++ cells ++ states ++ counters

-- so many words are of each kind
pub record HasParts (m : Meaning) (cells states counters : List ℕ) : Type 0 where
  pub each_cell : length cells ≡ cell_total m
  pub each_state : length states ≡ item_total m
  pub each_counter : length counters ≡ item_total m

-- the state of these words that the events lead to keeps the rule
abbrev pub LeadIsKept : Meaning → List ℕ → List Event → List ℕ → Type 0
LeadIsKept m cells events words = (hands : List HandState)
    → Lead m (opening_words m cells) (newcomer m first_name ∷ []) events words hands → IsKeptBy m words hands

-- the events before this place lead to a state in which the event there is no step
pub record IsFirstNoStep (m : Meaning) (cells : List ℕ) (events : List Event) (at : ℕ) : Type 0 where
  pub event : Event
  pub there : get_elem? events at ≡ some event
  pub words : List ℕ
  pub places : List ReplayPlace
  pub before : LeadTo m cells (take at events) words places
  pub no_step : IsStepAt m event places → ⊥

-- the events lead from the opening over these cells to some state
pub record LeadSomewhere (m : Meaning) (cells : List ℕ) (events : List Event) : Type 0 where
  pub words : List ℕ
  pub places : List ReplayPlace
  pub lead : LeadTo m cells events words places

-- at some place of the events stands the first that is no step
pub record HaveNoStep (m : Meaning) (cells : List ℕ) (events : List Event) : Type 0 where
  pub at : ℕ
  pub first : IsFirstNoStep m cells events at

-- the fault is want of memory, or names that place
abbrev pub NamesFirstNoStep : Meaning → List ℕ → List Event → ReplayFault → Type 0
NamesFirstNoStep m cells events (NoStep at) = IsFirstNoStep m cells events at
NamesFirstNoStep m cells events OutOfMemory = Unit {0}

-- the hands have these places, and keep the rule together with the words of a lawful work
pub record IsStateOf (m : Meaning) (words : List ℕ) (hands : List HandState)
    (places : List ReplayPlace) : Type 0 where
  pub lawful : IsLawfulWork m
  pub kept : IsKeptBy m words hands
  pub at : ArePlacesOf hands places

-- there are such hands
abbrev pub IsState : Meaning → List ℕ → List ReplayPlace → Type 0
IsState m words places = (hands : List HandState) × IsStateOf m words hands places

-- from this state of words and hands the event is a step
pub record IsStep (m : Meaning) (event : Event) (words : List ℕ) (hands : List HandState) : Type 0 where
  pub next : List ℕ
  pub more : List HandState
  pub does : Does m event words hands next more

-- the event is a step from this state to one of these words and places
pub record DoesAt (m : Meaning) (event : Event) (words : List ℕ) (hands : List HandState) (next : List ℕ)
    (places : List ReplayPlace) : Type 0 where
  pub more : List HandState
  pub does : Does m event words hands next more
  pub then : ArePlacesOf more places

-- whatever the hands at these places, the event is a step
pub record IsMade (m : Meaning) (event : Event) (words : List ℕ) (places : List ReplayPlace) (next : List ℕ)
    (then : List ReplayPlace) : Type 0 where
  pub each : (hands : List HandState) → IsStateOf m words hands places → DoesAt m event words hands next then

-- the words keep the rule together with some hands, of which one is at the place
pub record IsStageWith (m : Meaning) (words : List ℕ) (place : HandPlace) : Type 0 where
  pub lawful : IsLawfulWork m
  pub hands : List HandState
  pub hand : ℕ
  pub kept : IsKeptBy m words hands
  pub at : (hand_at hands hand).place ≡ live place

-- each hand at the first place makes a step that the event asks for, and is at the second place then
pub record StepsTo (m : Meaning) (event : Event) (words : List ℕ) (p : HandPlace) (next : List ℕ) (q : HandPlace)
    : Type 0 where
  pub each : (v : HandState) → v.place ≡ live p
      → (w : HandState) × StepsAsAsked m event words v next w × (w.place ≡ live q)
