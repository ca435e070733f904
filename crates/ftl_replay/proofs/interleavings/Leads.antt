-- Where events lead to a state, that state keeps the rule, and one more step leads on from it.
use Rattle.std.proofs.Common.{◌≡◌, ℕ, zero, suc, ◌+◌, ◌<◌, subst, refl, sym, ap, ◌∙◌, List, [], ◌∷◌, ◌++◌, length, take, set, get_or, add-one, None}
use Rattle.std.proofs.Math.Seq.{take-suc}
use Rattle.ftl_cells.specs.shared.Work.{Meaning, IsLawfulWork}
use Rattle.ftl_cells.specs.shared.State.{HandState, newcomer, first_name, next_name, given_up, after, after_join, split, end_word, opening_words, AreFirst, Makes, steps, splits, joins, Reached, begins, goes_on as reaches}
use Rattle.ftl_cells.specs.shared.Kept.{hand_at, IsKeptBy}
use Rattle.ftl_cells.specs.declared.shared.place.HandPlace.TheVariants.{Idle}
use Rattle.ftl_cells.proofs.shared.Opening.{opening_is}
use Rattle.ftl_cells.proofs.shared.KeptSteps.{kept}
use Rattle.ftl_replay.specs.declared.interleavings.place.ReplayPlace.{ReplayPlace}
use Rattle.ftl_replay.specs.declared.interleavings.place.ReplayPlace.TheVariants.{Live}
use Rattle.ftl_replay.specs.declared.interleavings.event.Event.{Event}
use Rattle.ftl_replay.specs.declared.interleavings.event.Event.TheVariants.{Look, Claim, Read, Fill, Mark, Deliver, Left, Another, GiveUp}
use Rattle.ftl_replay.specs.interleavings.Events.{hand_of, place_at, OneSteps, OneSplits, OneJoins, Does}
use Rattle.ftl_replay.specs.interleavings.Replays.{Lead, stays, goes_on, LeadTo, IsState, IsMade}

one_makes : (m : Meaning) (event : Event) (words : List ℕ) (hands : List HandState) (next : List ℕ)
    (more : List HandState) → OneSteps m event words hands next more → Makes m words hands next more
one_makes m event words hands next more d = subst (λ hs. Makes m words hands next hs) (sym d.then)
    (let s = d.step in steps (hand_of event) d.before d.now next d.there s.step)

split_makes : (m : Meaning) (h : ℕ) (words : List ℕ) (hands : List HandState) (next : List ℕ)
    (more : List HandState) → OneSplits m h words hands next more → Makes m words hands next more
split_makes m h words hands next more d = subst (λ hs. Makes m words hands next hs) (sym d.then)
    (subst (λ ws. Makes m words hands ws
    (set hands h (after d.before d.before.place split end_word None) ++ newcomer m (next_name d.before) ∷ []))
    (sym d.same) (splits h d.before d.there d.idle))

join_makes : (m : Meaning) (h other : ℕ) (words : List ℕ) (hands : List HandState) (next : List ℕ)
    (more : List HandState) → OneJoins h other words hands next more → Makes m words hands next more
join_makes m h other words hands next more d = subst (λ hs. Makes m words hands next hs) (sym d.then)
    (subst (λ ws. Makes m words hands ws
    (set (set hands h (after_join d.before d.taken)) other given_up)) (sym d.same)
    (joins h other d.before d.taken d.apart d.there d.other_there d.free d.other_free))

-- an event that is a step is one of the steps of shared cells
pub does_makes : (m : Meaning) (event : Event) (words : List ℕ) (hands : List HandState) (next : List ℕ)
    (more : List HandState) → Does m event words hands next more → Makes m words hands next more
does_makes m (Look hand item) words hands next more d = one_makes m (Look hand item) words hands next more d
does_makes m (Claim hand) words hands next more d = one_makes m (Claim hand) words hands next more d
does_makes m (Read hand) words hands next more d = one_makes m (Read hand) words hands next more d
does_makes m (Fill hand) words hands next more d = one_makes m (Fill hand) words hands next more d
does_makes m (Mark hand) words hands next more d = one_makes m (Mark hand) words hands next more d
does_makes m (Deliver hand) words hands next more d = one_makes m (Deliver hand) words hands next more d
does_makes m (Left hand) words hands next more d = one_makes m (Left hand) words hands next more d
does_makes m (Another hand) words hands next more d = split_makes m hand words hands next more d
does_makes m (GiveUp hand other) words hands next more d = join_makes m hand other words hands next more d

-- the states that events lead to are states that steps reach from an opening
pub lead_reaches : (m : Meaning) (first : List ℕ) (hands : List HandState) (events : List Event) (words : List ℕ)
    (last : List HandState) → Reached m first hands → Lead m first hands events words last → Reached m words last
lead_reaches m first hands events words last r stays = r
lead_reaches m first hands events words last r
    (goes_on {events = few} {next = next} {more = more} event l d) =
    reaches (lead_reaches m first hands few next more r l) (does_makes m event next more words last d)

module _ (m : Meaning) (law : IsLawfulWork m) (cells : List ℕ) (first : AreFirst m cells) where
  pub lead_keeps : (events : List Event) (words : List ℕ) (hands : List HandState)
      → Lead m (opening_words m cells) (newcomer m first_name ∷ []) events words hands → IsKeptBy m words hands
  lead_keeps events words hands l = kept m law words hands
      (lead_reaches m (opening_words m cells) (newcomer m first_name ∷ []) events words hands
      (begins (opening_words m cells) (opening_is m cells first)) l)

  pub state_of : (events : List Event) (words : List ℕ) (places : List ReplayPlace)
      → LeadTo m cells events words places → IsState m words places
  state_of events words places l = (
    l.hands,
    record {
      lawful = law;
      kept = lead_keeps events words l.hands l.lead;
      at = l.at;
    },
  )

  pub leads_on : (events : List Event) (event : Event) (words next : List ℕ) (places then : List ReplayPlace)
      → LeadTo m cells events words places → IsMade m event words places next then
      → LeadTo m cells (events ++ event ∷ []) next then
  leads_on events event words next places then l made =
      let d = made.each l.hands (record {
        lawful = law;
        kept = lead_keeps events words l.hands l.lead;
        at = l.at;
      }) in
      record { hands = d.more; lead = goes_on event l.lead d.does; at = d.then }

-- at the opening one hand is Idle
pub leads_nowhere : (m : Meaning) (cells : List ℕ) → LeadTo m cells [] (opening_words m cells) (Live Idle ∷ [])
leads_nowhere m cells = record {
  hands = newcomer m first_name ∷ [];
  lead = stays;
  at = record {
    count = refl;
    each = λ h. elim h as (λ y. place_at (Live Idle ∷ []) y ≡ (hand_at (newcomer m first_name ∷ []) y).place) [
      | zero ↦ refl
      | suc g ↦ refl
    ];
  };
}

-- one more of the events
pub take_more : (events : List Event) (at : ℕ) (d : Event) → at < length events
    → take (at + 1) events ≡ take at events ++ get_or events at d ∷ []
take_more events at d b = ap (λ n. take n events) (add-one at) ∙ take-suc events at d b
