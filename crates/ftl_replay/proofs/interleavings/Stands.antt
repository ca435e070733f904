-- A hand that is at a place for an event makes its step, on a state that keeps the rule.
use Rattle.std.proofs.Common.{◌≡◌, ℕ, ◌+◌, ◌<◌, ◌↔◌, refl, List, get_or, set}
use mathlib.Core.Logic.{dite}
use native.Mathlib.Decide.{ℕ_discrete}
use Rattle.ftl_cells.specs.shared.Work.{Meaning, item_total, next_total, next_at, target_of, solved_word}
use Rattle.ftl_cells.specs.shared.State.{Place, live, spent, HandState, Sends, end_word, cell_word, state_word, count_word}
use Rattle.ftl_cells.specs.shared.Calls.{CanClaim, CanRead, CanMark, CanDeliver}
use Rattle.ftl_cells.specs.declared.shared.place.HandPlace.{HandPlace}
use Rattle.ftl_cells.specs.declared.shared.place.HandPlace.TheVariants.{Idle, Looked, Working, Filled, Sending, Ended}
use Rattle.ftl_replay.specs.declared.interleavings.place.ReplayPlace.{ReplayPlace}
use Rattle.ftl_replay.specs.declared.interleavings.event.Event.{Event}
use Rattle.ftl_replay.specs.declared.interleavings.event.Event.TheVariants.{Look, Claim, Read, Fill, Mark, Deliver, Left, Another, GiveUp}
use Rattle.ftl_replay.specs.interleavings.Events.{hand_of, place_at, HasRead, IsPlaceFor, IsOtherFor, IsStepAt, IsOwn}
use Rattle.ftl_replay.specs.interleavings.Replays.{IsMade, IsStageWith, IsStateOf, IsStep, StepsTo}
use Rattle.ftl_replay.proofs.interleavings.Moves.{looks_ready, looks_waiting, claims_free, claims_taken, reads_next, fills_target, marks_item, sends_one, finishes_item, ends_here, finds_more, counter_left, end_left, sent_bound}
use Rattle.ftl_replay.proofs.interleavings.Made.{makes_own, makes_another, makes_join, stage_of}
use Rattle.ftl_replay.proofs.interleavings.Fits.{step_fits}

-- a hand at this place makes the step that the event asks for
record Can (m : Meaning) (event : Event) (words : List ℕ) (p : HandPlace) : Type 0 where
  next : List ℕ
  to : HandPlace
  step : StepsTo m event words p next to

idle_is : (p : HandPlace) → live p ≡ live Idle → p ≡ Idle
idle_is p e = cc

module _ (m : Meaning) (words : List ℕ) (hand : ℕ) where
  looks : (p : HandPlace) (item : ℕ) → p ≡ Idle → item < item_total m → Can m (Look hand item) words p
  looks p item e b = dite (ℕ_discrete (get_or words (count_word m item) 0) 0)
      (λ z. record { next = words; to = Looked item; step = looks_ready m words hand p item e b z })
      (λ ne. record { next = words; to = Idle; step = looks_waiting m words hand p item e b ne })

  claims : (p : HandPlace) → CanClaim (live p) → Can m (Claim hand) words p
  claims Idle c = absurd c
  claims (Looked item) c = dite (ℕ_discrete (get_or words (state_word m item) 0) 0)
      (λ z. record {
        next = set words (state_word m item) 1;
        to = Working item 0 0;
        step = claims_free m words hand item z;
      })
      (λ ne. record { next = words; to = Idle; step = claims_taken m words hand item ne })
  claims (Working item step reads) c = absurd c
  claims (Filled item) c = absurd c
  claims (Sending item sent) c = absurd c
  claims Ended c = absurd c

  reads : (p : HandPlace) → CanRead m (live p) → Can m (Read hand) words p
  reads Idle c = absurd c
  reads (Looked item) c = absurd c
  reads (Working i j r) c = record
      { next = words; to = Working i j (r + 1); step = reads_next m words hand i j r c.0 c.1 }
  reads (Filled item) c = absurd c
  reads (Sending item sent) c = absurd c
  reads Ended c = absurd c

  fills : (p : HandPlace) → HasRead m (live p) → Can m (Fill hand) words p
  fills Idle c = absurd c
  fills (Looked item) c = absurd c
  fills (Working i j r) c = record {
    next = set words (cell_word (target_of m i j)) (solved_word m (target_of m i j));
    to = Working i (j + 1) 0;
    step = fills_target m words hand i j r c.0 c.1;
  }
  fills (Filled item) c = absurd c
  fills (Sending item sent) c = absurd c
  fills Ended c = absurd c

  marks : (p : HandPlace) → CanMark m (live p) → Can m (Mark hand) words p
  marks Idle c = absurd c
  marks (Looked item) c = absurd c
  marks (Working i j r) c = record {
    next = set words (state_word m i) 2;
    to = Filled i;
    step = marks_item m words hand i j r c;
  }
  marks (Filled item) c = absurd c
  marks (Sending item sent) c = absurd c
  marks Ended c = absurd c

  sends : (p : HandPlace) (i k : ℕ) → IsStageWith m words p → Sends (live p) i k → Can m (Deliver hand) words p
  sends p i k s sent = dite (ℕ_discrete k (next_total m i))
      (λ e. let l = end_left m words p s i k sent in record {
        next = set words end_word l.0;
        to = Idle;
        step = finishes_item m words hand p i k l.0 sent e l.1;
      })
      (λ ne. let b : k < next_total m i = sent_bound m words p s i k sent ne in
      let l = counter_left m words p s i k sent b in record {
        next = set words (count_word m (next_at m i k)) l.0;
        to = Sending i (k + 1);
        step = sends_one m words hand p i k l.0 sent b l.1;
      })

  delivers : (p : HandPlace) → IsStageWith m words p → CanDeliver (live p) → Can m (Deliver hand) words p
  delivers Idle s c = absurd c
  delivers (Looked item) s c = absurd c
  delivers (Working i j r) s c = absurd c
  delivers (Filled item) s c = sends (Filled item) item 0 s (refl, refl)
  delivers (Sending item sent) s c = sends (Sending item sent) item sent s (refl, refl)
  delivers Ended s c = absurd c

  finds_end : (p : HandPlace) → p ≡ Idle → Can m (Left hand) words p
  finds_end p e = dite (ℕ_discrete (get_or words end_word 0) 0)
      (λ z. record { next = words; to = Ended; step = ends_here m words hand p e z })
      (λ ne. record { next = words; to = Idle; step = finds_more m words hand p e ne })

can : (m : Meaning) (words : List ℕ) (event : Event) (p : HandPlace) → IsStageWith m words p → IsOwn event
    → IsPlaceFor m event (live p) → Can m event words p
can m words (Look hand item) p s o f = looks m words hand p item (idle_is p f.0) f.1
can m words (Claim hand) p s o f = claims m words hand p f
can m words (Read hand) p s o f = reads m words hand p f
can m words (Fill hand) p s o f = fills m words hand p f
can m words (Mark hand) p s o f = marks m words hand p f
can m words (Deliver hand) p s o f = delivers m words hand p s f
can m words (Left hand) p s o f = finds_end m words hand p (idle_is p f)
can m words (Another hand) p s o f = absurd o
can m words (GiveUp hand other) p s o f = absurd o

spent_makes_none : (m : Meaning) (event : Event) → IsOwn event → IsPlaceFor m event spent → ⊥
spent_makes_none m (Look hand item) o f = let e : spent ≡ live Idle = f.0 in cc
spent_makes_none m (Claim hand) o f = f
spent_makes_none m (Read hand) o f = f
spent_makes_none m (Fill hand) o f = f
spent_makes_none m (Mark hand) o f = f
spent_makes_none m (Deliver hand) o f = f
spent_makes_none m (Left hand) o f = let e : spent ≡ live Idle = f in cc
spent_makes_none m (Another hand) o f = absurd o
spent_makes_none m (GiveUp hand other) o f = absurd o

module _ (m : Meaning) (words : List ℕ) (hands : List HandState) (places : List ReplayPlace)
    (state : IsStateOf m words hands places) where
  made : (event : Event) (next : List ℕ) (then : List ReplayPlace) → IsMade m event words places next then
      → IsStep m event words hands
  made event next then g = let d = g.each hands state in record { next = next; more = d.more; does = d.does }

  own_made : (event : Event) → IsOwn event → (p : Place) → place_at places (hand_of event) ≡ p → IsPlaceFor m event p
      → IsStep m event words hands
  own_made event o (live p) e f =
      let stage : IsStageWith m words p = stage_of m words places (hand_of event) p (hands, state) e in
      let c : Can m event words p = can m words event p stage o f in
      made event c.next _ (makes_own m event words places c.next p c.to o e c.step)
  own_made event o spent e f = absurd (spent_makes_none m event o f)

  -- an event whose hands are at places for it is a step
  stands_for : (event : Event) → IsStepAt m event places → IsStep m event words hands
  stands_for (Look hand item) s = own_made (Look hand item) tt (place_at places hand) refl s.hand
  stands_for (Claim hand) s = own_made (Claim hand) tt (place_at places hand) refl s.hand
  stands_for (Read hand) s = own_made (Read hand) tt (place_at places hand) refl s.hand
  stands_for (Fill hand) s = own_made (Fill hand) tt (place_at places hand) refl s.hand
  stands_for (Mark hand) s = own_made (Mark hand) tt (place_at places hand) refl s.hand
  stands_for (Deliver hand) s = own_made (Deliver hand) tt (place_at places hand) refl s.hand
  stands_for (Left hand) s = own_made (Left hand) tt (place_at places hand) refl s.hand
  stands_for (Another hand) s = made (Another hand) words _ (makes_another m hand words places s.hand)
  stands_for (GiveUp hand other) s = let o : IsOtherFor (GiveUp hand other) places = s.other in
      made (GiveUp hand other) words _ (makes_join m hand other words places o.0 s.hand o.1)

  -- and no other is
  pub step_exactly : (event : Event) → IsStep m event words hands ↔ IsStepAt m event places
  step_exactly event = (
    λ s. step_fits m words hands places state.at s.next s.more event s.does,
    stands_for event,
  )
