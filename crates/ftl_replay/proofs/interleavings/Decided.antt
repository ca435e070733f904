-- Whether an event is a step is decided by places, so each list of events has an answer.
use Rattle.std.proofs.Common.{◌≡◌, ◌≢◌, ℕ, zero, suc, ◌+◌, ◌<◌, ◌≤◌, ◌⊎◌, inl, inr, ⊎_elim, subst, refl, sym, ap, arith, List, [], ◌∷◌, length, take, map, get_or}
use Rattle.std.proofs.lemmas.Bool.{cases_lt}
use Rattle.std.proofs.Math.Seq.{take-length}
use mathlib.Core.Logic.{dite}
use native.Mathlib.Decide.{ℕ_discrete}
use Rattle.ftl_cells.specs.shared.Work.{Meaning, IsLawfulWork, item_total, step_total, read_total}
use Rattle.ftl_cells.specs.shared.State.{Place, live, spent, HandState, IsFree, AreFirst, opening_words}
use Rattle.ftl_cells.specs.shared.Kept.{hand_at}
use Rattle.ftl_cells.specs.shared.Calls.{CanClaim, CanRead, CanMark, CanDeliver}
use Rattle.ftl_cells.specs.declared.shared.place.HandPlace.TheVariants.{Idle, Looked, Working, Filled, Sending, Ended}
use Rattle.ftl_replay.specs.declared.interleavings.place.ReplayPlace.{ReplayPlace}
use Rattle.ftl_replay.specs.declared.interleavings.place.ReplayPlace.TheVariants.{Live, Spent}
use Rattle.ftl_replay.specs.declared.interleavings.event.Event.{Event}
use Rattle.ftl_replay.specs.declared.interleavings.event.Event.TheVariants.{Look, Claim, Read, Fill, Mark, Deliver, Left, Another, GiveUp}
use Rattle.ftl_replay.specs.interleavings.Events.{hand_of, place_of, place_at, HasRead, IsPlaceFor, IsOtherFor, IsStepAt}
use Rattle.ftl_replay.specs.interleavings.Replays.{LeadTo, goes_on, IsStateOf, IsStep, LeadSomewhere, HaveNoStep}
use Rattle.ftl_replay.proofs.interleavings.Places.{there}
use Rattle.ftl_replay.proofs.interleavings.Leads.{lead_keeps, leads_nowhere, take_more}
use Rattle.ftl_replay.proofs.interleavings.Stands.{step_exactly}

-- it holds or it doesn't
abbrev Decided : Type 0 → Type 0
Decided P = P ⊎ (P → ⊥)

both : (P Q : Type 0) → Decided P → Decided Q → Decided (P × Q)
both P Q (inl p) (inl q) = inl (p, q)
both P Q (inl p) (inr n) = inr (λ r. n r.1)
both P Q (inr n) d = inr (λ r. n r.0)

less : (a b : ℕ) → Decided (a < b)
less a b = ⊎_elim (λ l. inl l) (λ g. inr (λ l. omega arith)) (cases_lt a b)

same : (a b : ℕ) → Decided (a ≡ b)
same a b = dite (ℕ_discrete a b) (λ e. inl e) (λ n. inr n)

apart : (a b : ℕ) → Decided (a ≢ b)
apart a b = dite (ℕ_discrete a b) (λ e. inr (λ n. n e)) (λ n. inl n)

idle : (p : Place) → Decided (p ≡ live Idle)
idle (live Idle) = inl refl
idle (live (Looked item)) = inr (λ e. cc)
idle (live (Working item step reads)) = inr (λ e. cc)
idle (live (Filled item)) = inr (λ e. cc)
idle (live (Sending item sent)) = inr (λ e. cc)
idle (live Ended) = inr (λ e. cc)
idle spent = inr (λ e. cc)

free : (p : Place) → Decided (IsFree p)
free (live Idle) = inl tt
free (live (Looked item)) = inr (λ f. f)
free (live (Working item step reads)) = inr (λ f. f)
free (live (Filled item)) = inr (λ f. f)
free (live (Sending item sent)) = inr (λ f. f)
free (live Ended) = inl tt
free spent = inr (λ f. f)

can_claim : (p : Place) → Decided (CanClaim p)
can_claim (live Idle) = inr (λ f. f)
can_claim (live (Looked item)) = inl tt
can_claim (live (Working item step reads)) = inr (λ f. f)
can_claim (live (Filled item)) = inr (λ f. f)
can_claim (live (Sending item sent)) = inr (λ f. f)
can_claim (live Ended) = inr (λ f. f)
can_claim spent = inr (λ f. f)

can_deliver : (p : Place) → Decided (CanDeliver p)
can_deliver (live Idle) = inr (λ f. f)
can_deliver (live (Looked item)) = inr (λ f. f)
can_deliver (live (Working item step reads)) = inr (λ f. f)
can_deliver (live (Filled item)) = inl tt
can_deliver (live (Sending item sent)) = inl tt
can_deliver (live Ended) = inr (λ f. f)
can_deliver spent = inr (λ f. f)

module _ (m : Meaning) where
  can_read : (p : Place) → Decided (CanRead m p)
  can_read (live Idle) = inr (λ f. f)
  can_read (live (Looked item)) = inr (λ f. f)
  can_read (live (Working i j r)) = both (j < step_total m i) (r < read_total m i j) (less j (step_total m i))
      (less r (read_total m i j))
  can_read (live (Filled item)) = inr (λ f. f)
  can_read (live (Sending item sent)) = inr (λ f. f)
  can_read (live Ended) = inr (λ f. f)
  can_read spent = inr (λ f. f)

  has_read : (p : Place) → Decided (HasRead m p)
  has_read (live Idle) = inr (λ f. f)
  has_read (live (Looked item)) = inr (λ f. f)
  has_read (live (Working i j r)) = both (j < step_total m i) (r ≡ read_total m i j) (less j (step_total m i))
      (same r (read_total m i j))
  has_read (live (Filled item)) = inr (λ f. f)
  has_read (live (Sending item sent)) = inr (λ f. f)
  has_read (live Ended) = inr (λ f. f)
  has_read spent = inr (λ f. f)

  can_mark : (p : Place) → Decided (CanMark m p)
  can_mark (live Idle) = inr (λ f. f)
  can_mark (live (Looked item)) = inr (λ f. f)
  can_mark (live (Working i j r)) = same j (step_total m i)
  can_mark (live (Filled item)) = inr (λ f. f)
  can_mark (live (Sending item sent)) = inr (λ f. f)
  can_mark (live Ended) = inr (λ f. f)
  can_mark spent = inr (λ f. f)

  place_for : (event : Event) (p : Place) → Decided (IsPlaceFor m event p)
  place_for (Look hand item) p = both (p ≡ live Idle) (item < item_total m) (idle p) (less item (item_total m))
  place_for (Claim hand) p = can_claim p
  place_for (Read hand) p = can_read p
  place_for (Fill hand) p = has_read p
  place_for (Mark hand) p = can_mark p
  place_for (Deliver hand) p = can_deliver p
  place_for (Left hand) p = idle p
  place_for (Another hand) p = idle p
  place_for (GiveUp hand other) p = free p

  other_for : (event : Event) (places : List ReplayPlace) → Decided (IsOtherFor event places)
  other_for (Look hand item) places = inl tt
  other_for (Claim hand) places = inl tt
  other_for (Read hand) places = inl tt
  other_for (Fill hand) places = inl tt
  other_for (Mark hand) places = inl tt
  other_for (Deliver hand) places = inl tt
  other_for (Left hand) places = inl tt
  other_for (Another hand) places = inl tt
  other_for (GiveUp hand other) places = both (other ≢ hand) (IsFree (place_at places other)) (apart other hand)
      (free (place_at places other))

  step_at : (event : Event) (places : List ReplayPlace) → Decided (IsStepAt m event places)
  step_at event places = ⊎_elim
      (λ h. ⊎_elim (λ o. inl (record { hand = h; other = o })) (λ n. inr (λ s. n s.other)) (other_for event places))
      (λ n. inr (λ s. n s.hand))
      (place_for event (place_at places (hand_of event)))

-- the place on a vector
abbrev shown : Place → ReplayPlace
shown (live p) = Live p
shown spent = Spent

shown_is : (p : Place) → place_of (shown p) ≡ p
shown_is (live p) = refl
shown_is spent = refl

abbrev places_of : List HandState → List ReplayPlace
places_of hands = map (λ v. shown v.place) hands

places_at : (hands : List HandState) (h : ℕ) → place_at (places_of hands) h ≡ (hand_at hands h).place
places_at [] h = refl
places_at (v ∷ vs) zero = shown_is v.place
places_at (v ∷ vs) (suc h) = places_at vs h

places_count : (hands : List HandState) → length (places_of hands) ≡ length hands
places_count [] = refl
places_count (v ∷ vs) = ap suc (places_count vs)

module _ (m : Meaning) (law : IsLawfulWork m) (cells : List ℕ) (first : AreFirst m cells) (events : List Event) where
  leads_more : (k : ℕ) → k < length events → LeadSomewhere m cells (take k events)
      → LeadSomewhere m cells (take (k + 1) events) ⊎ HaveNoStep m cells events
  leads_more k b l = let event = get_or events k (Look 0 0) in
      let lead : LeadTo m cells (take k events) l.words l.places = l.lead in
      let state : IsStateOf m l.words lead.hands l.places = record {
        lawful = law;
        kept = lead_keeps m law cells first (take k events) l.words lead.hands lead.lead;
        at = lead.at;
      } in
      ⊎_elim
      (λ s. let step : IsStep m event l.words lead.hands =
      (step_exactly m l.words lead.hands l.places state event).1 s in inl (record {
        words = step.next;
        places = places_of step.more;
        lead = subst (λ es. LeadTo m cells es step.next (places_of step.more))
            (sym (take_more events k (Look 0 0) b))
            (record {
              hands = step.more;
              lead = goes_on event lead.lead step.does;
              at = record { count = places_count step.more; each = places_at step.more };
            });
      }))
      (λ n. inr (record {
        at = k;
        first = record {
          event = event;
          there = there events k (Look 0 0) b;
          words = l.words;
          places = l.places;
          before = lead;
          no_step = n;
        };
      }))
      (step_at m event l.places)

  leads_to : (k : ℕ) → k ≤ length events → LeadSomewhere m cells (take k events) ⊎ HaveNoStep m cells events
  leads_to zero b = inl (record {
    words = opening_words m cells;
    places = Live Idle ∷ [];
    lead = leads_nowhere m cells;
  })
  leads_to (suc k) b = let more : k + 1 ≡ suc k = omega arith in ⊎_elim
      (λ l. subst (λ n. LeadSomewhere m cells (take n events) ⊎ HaveNoStep m cells events) more
      (leads_more k (omega arith) l))
      (λ n. inr n) (leads_to k (omega arith))

  -- the events lead somewhere, or one of them is the first that is no step
  pub some_answer : LeadSomewhere m cells events ⊎ HaveNoStep m cells events
  some_answer = subst (λ es. LeadSomewhere m cells es ⊎ HaveNoStep m cells events) (take-length events)
      (leads_to (length events) (omega arith))
