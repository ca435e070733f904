-- A hand that may make the step of an event makes it.
use Rattle.std.proofs.Common.{◌≡◌, ◌≢◌, ℕ, ◌<◌, subst, refl, sym, ◌∙◌, List, [], ◌∷◌, ◌++◌, length, set}
use Rattle.std.proofs.lemmas.List.{length-set}
use Rattle.std.specs.Prelude.{None, Result, Ok, Err, IfOk}
use Rattle.ftl_cells.specs.shared.Work.{Meaning}
use Rattle.ftl_cells.specs.shared.State.{Place, live, spent, HandState, newcomer, next_name, given_up, after, after_join, split, end_word, IsFree}
use Rattle.ftl_cells.specs.shared.Kept.{hand_at}
use Rattle.ftl_cells.specs.declared.shared.place.HandPlace.{HandPlace}
use Rattle.ftl_cells.specs.declared.shared.place.HandPlace.TheVariants.{Idle}
use Rattle.ftl_replay.specs.declared.interleavings.place.ReplayPlace.{ReplayPlace}
use Rattle.ftl_replay.specs.declared.interleavings.place.ReplayPlace.TheVariants.{Live, Spent}
use Rattle.ftl_replay.specs.declared.interleavings.event.Event.{Event}
use Rattle.ftl_replay.specs.declared.interleavings.event.Event.TheVariants.{Look, Claim, Read, Fill, Mark, Deliver, Left, Another, GiveUp}
use Rattle.ftl_replay.specs.interleavings.Events.{hand_of, IsOwn, place_at, OneSteps, Does}
use Rattle.ftl_replay.specs.interleavings.Replays.{ArePlacesOf, IsState, IsMade, IsStageWith, StepsTo}
use Rattle.ftl_replay.proofs.interleavings.Places.{there, below, put, stay, more}

live_is_there : (p : HandPlace) → live p ≢ spent
live_is_there p e = cc

-- a hand whose place is live is there
pub stands : (hands : List HandState) (places : List ReplayPlace) (h : ℕ) (p : HandPlace) → ArePlacesOf hands places
    → place_at places h ≡ live p → h < length hands
stands hands places h p at e = below hands h (λ s. live_is_there p (sym e ∙ at.each h ∙ s))

free_is_there : (p : Place) → IsFree p → p ≢ spent
free_is_there p f e = subst IsFree e f

pub free_stands : (hands : List HandState) (places : List ReplayPlace) (h : ℕ) → ArePlacesOf hands places
    → IsFree (place_at places h) → h < length hands
free_stands hands places h at f = below hands h (λ s. free_is_there (place_at places h) f (at.each h ∙ s))

own_does : (m : Meaning) (event : Event) (words : List ℕ) (hands : List HandState) (next : List ℕ)
    (more : List HandState) → IsOwn event → OneSteps m event words hands next more
    → Does m event words hands next more
own_does m (Look hand item) words hands next more o d = d
own_does m (Claim hand) words hands next more o d = d
own_does m (Read hand) words hands next more o d = d
own_does m (Fill hand) words hands next more o d = d
own_does m (Mark hand) words hands next more o d = d
own_does m (Deliver hand) words hands next more o d = d
own_does m (Left hand) words hands next more o d = d
own_does m (Another hand) words hands next more o d = absurd o
own_does m (GiveUp hand other) words hands next more o d = absurd o

pub makes_own : (m : Meaning) (event : Event) (words : List ℕ) (places : List ReplayPlace) (next : List ℕ)
    (p q : HandPlace) → IsOwn event → place_at places (hand_of event) ≡ live p → StepsTo m event words p next q
    → IsMade m event words places next (set places (hand_of event) (Live q))
makes_own m event words places next p q own e s = record {
  each = λ hands state.
      let b : hand_of event < length hands = stands hands places (hand_of event) p state.at e in
      let v : HandState = hand_at hands (hand_of event) in
      let made = s.each v (sym (state.at.each (hand_of event)) ∙ e) in
      record {
        more = set hands (hand_of event) made.0;
        does = own_does m event words hands next (set hands (hand_of event) made.0) own (record {
          before = v;
          now = made.0;
          there = there hands (hand_of event) given_up b;
          step = made.1;
          then = refl;
        });
        then = put hands places state.at (hand_of event) made.0 (Live q) b (sym made.2);
      };
}

pub makes_another : (m : Meaning) (hand : ℕ) (words : List ℕ) (places : List ReplayPlace)
    → place_at places hand ≡ live Idle
    → IsMade m (Another hand) words places words (places ++ Live Idle ∷ [])
makes_another m hand words places e = record {
  each = λ hands state.
      let b : hand < length hands = stands hands places hand Idle state.at e in
      let v : HandState = hand_at hands hand in
      let w : HandState = after v v.place split end_word None in
      record {
        more = set hands hand w ++ newcomer m (next_name v) ∷ [];
        does = record {
          before = v;
          there = there hands hand given_up b;
          idle = sym (state.at.each hand) ∙ e;
          same = refl;
          then = refl;
        };
        then = more (set hands hand w) places (stay hands places state.at hand w b refl) (newcomer m (next_name v))
            (Live Idle) refl;
      };
}

pub makes_join : (m : Meaning) (hand other : ℕ) (words : List ℕ) (places : List ReplayPlace) → other ≢ hand
    → IsFree (place_at places hand) → IsFree (place_at places other)
    → IsMade m (GiveUp hand other) words places words (set places other Spent)
makes_join m hand other words places ne f g = record {
  each = λ hands state.
      let b : hand < length hands = free_stands hands places hand state.at f in
      let d : other < length hands = free_stands hands places other state.at g in
      let v : HandState = hand_at hands hand in
      let w : HandState = hand_at hands other in
      let x : HandState = after_join v w in
      record {
        more = set (set hands hand x) other given_up;
        does = record {
          before = v;
          taken = w;
          apart = ne;
          there = there hands hand given_up b;
          other_there = there hands other given_up d;
          free = subst IsFree (state.at.each hand) f;
          other_free = subst IsFree (state.at.each other) g;
          same = refl;
          then = refl;
        };
        then = put (set hands hand x) places (stay hands places state.at hand x b refl) other given_up Spent
            (subst (λ n. other < n) (sym (length-set hands hand x)) d) refl;
      };
}

-- the stage of a hand at its place
pub stage_of : (m : Meaning) (words : List ℕ) (places : List ReplayPlace) (h : ℕ) (p : HandPlace)
    → IsState m words places → place_at places h ≡ live p → IsStageWith m words p
stage_of m words places h p s e = let state = s.1 in record {
  lawful = state.lawful;
  hands = s.0;
  hand = h;
  kept = state.kept;
  at = sym (state.at.each h) ∙ e;
}

-- what follows where a result is Ok
pub ok_map : {X E : Type 0} (r : Result X E) (P Q : X → Type 0) → ((x : X) → P x → Q x) → IfOk r P → IfOk r Q
ok_map (Ok x) P Q f h = f x h
ok_map (Err e) P Q f h = tt
