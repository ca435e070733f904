-- What an event that is a step says of the place of its hand.
use Rattle.std.proofs.Common.{◌≡◌, ℕ, suc, ◌<◌, ◌⊎◌, inl, inr, ⊎_elim, subst, refl, sym, ap, ◌∙◌, arith, List, get_or}
use Rattle.std.specs.Prelude.{Some}
use mathlib.Core.Option.{some}
use lib.ListN.{get_elem?}
use Rattle.ftl_cells.specs.shared.Work.{Meaning, item_total, target_of, read_of, next_at}
use Rattle.ftl_cells.specs.shared.State.{Place, live, spent, OneStep, HandState, given_up, StepKind, load_counter, claim, load_cell, store_cell, mark, delivery, split, join, Sends, IsFree, Steps, finds_ready, finds_waiting, claims, misses, reads, fills, marks, sends, finishes, ends, finds_left, end_word, cell_word, state_word, count_word}
use Rattle.ftl_cells.specs.shared.Calls.{CanClaim, CanRead, CanMark, CanDeliver}
use Rattle.ftl_cells.specs.declared.shared.place.HandPlace.TheVariants.{Idle, Looked, Working, Filled, Sending, Ended}
use Rattle.ftl_cells.proofs.shared.KeptSteps.{elem_is}
use Rattle.ftl_replay.specs.declared.interleavings.place.ReplayPlace.{ReplayPlace}
use Rattle.ftl_replay.specs.declared.interleavings.event.Event.{Event}
use Rattle.ftl_replay.specs.declared.interleavings.event.Event.TheVariants.{Look, Claim, Read, Fill, Mark, Deliver, Left, Another, GiveUp}
use Rattle.ftl_replay.specs.interleavings.Events.{hand_of, place_at, HasRead, IsPlaceFor, IsStepAt, IsOwn, Asks, OneSteps, Does}
use Rattle.ftl_replay.specs.interleavings.Replays.{ArePlacesOf}

-- where a hand is that makes a step of this kind on this word
abbrev Fits : Meaning → Place → StepKind → ℕ → Type 0
Fits m p load_counter word = (p ≡ live Idle)
    × ((word ≡ end_word) ⊎ ((i : ℕ) × (i < item_total m) × (word ≡ count_word m i)))
Fits m p claim word = CanClaim p
Fits m p load_cell word = CanRead m p
Fits m p store_cell word = HasRead m p
Fits m p mark word = CanMark m p
Fits m p delivery word = CanDeliver p
Fits m p split word = ⊥
Fits m p join word = ⊥

sends_can : (p : Place) (i k : ℕ) → Sends p i k → CanDeliver p
sends_can (live Idle) i k s = absurd s
sends_can (live (Looked item)) i k s = absurd s
sends_can (live (Working item j r)) i k s = absurd s
sends_can (live (Filled item)) i k s = tt
sends_can (live (Sending item sent)) i k s = tt
sends_can (live Ended) i k s = absurd s
sends_can spent i k s = absurd s

module _ (m : Meaning) (words : List ℕ) (v : HandState) where
  same_step : (s t : OneStep) → Some s ≡ Some t → Fits m v.place s.kind s.word → Fits m v.place t.kind t.word
  same_step s t e f = let is : s ≡ t = cc in subst (λ y. Fits m v.place y.kind y.word) is f

  fits : (next : List ℕ) (w : HandState) (s : OneStep) → Steps m words v next w → w.last ≡ Some s
      → Fits m v.place s.kind s.word
  fits next w s (finds_ready i e b z) is = same_step (record { kind = load_counter; word = count_word m i; held = Some 0 })
      s is (e, inr (i, b, refl))
  fits next w s (finds_waiting i e b z) is = same_step
      (record { kind = load_counter; word = count_word m i; held = Some (get_or words (count_word m i) 0) })
      s is (e, inr (i, b, refl))
  fits next w s (claims i e z) is = same_step (record { kind = claim; word = state_word m i; held = Some 0 })
      s is (subst CanClaim (sym e) tt)
  fits next w s (misses i e z) is = same_step
      (record { kind = claim; word = state_word m i; held = Some (get_or words (state_word m i) 0) })
      s is (subst CanClaim (sym e) tt)
  fits next w s (reads i j r e b c) is = same_step (record {
    kind = load_cell;
    word = cell_word (read_of m i j r);
    held = Some (get_or words (cell_word (read_of m i j r)) 0);
  }) s is (subst (CanRead m) (sym e) (b, c))
  fits next w s (fills i j r e b c) is = same_step (record {
    kind = store_cell;
    word = cell_word (target_of m i j);
    held = Some (get_or words (cell_word (target_of m i j)) 0);
  }) s is (subst (HasRead m) (sym e) (b, c))
  fits next w s (marks i j r e b) is = same_step
      (record { kind = mark; word = state_word m i; held = Some (get_or words (state_word m i) 0) })
      s is (subst (CanMark m) (sym e) b)
  fits next w s (sends i k left e b z) is = same_step
      (record { kind = delivery; word = count_word m (next_at m i k); held = Some (suc left) })
      s is (sends_can v.place i k e)
  fits next w s (finishes i k left e b z) is = same_step
      (record { kind = delivery; word = end_word; held = Some (suc left) })
      s is (sends_can v.place i k e)
  fits next w s (ends e z) is = same_step (record { kind = load_counter; word = end_word; held = Some 0 })
      s is (e, inl refl)
  fits next w s (finds_left e z) is = same_step
      (record { kind = load_counter; word = end_word; held = Some (get_or words end_word 0) })
      s is (e, inl refl)

looked_at : (m : Meaning) (p : Place) (item word : ℕ) → word ≡ count_word m item → Fits m p load_counter word
    → (p ≡ live Idle) × (item < item_total m)
looked_at m p item word e f = (
  f.0,
  ⊎_elim (λ z. absurd (omega arith))
      (λ (q : (i : ℕ) × (i < item_total m) × (word ≡ count_word m i)).
      let b : q.0 < item_total m = q.1 in let is : word ≡ count_word m q.0 = q.2 in omega arith) f.1,
)

-- the place is one for the event, where a step of its hand alone is as it asks
asked_at : (m : Meaning) (event : Event) (p : Place) (s : OneStep) → IsOwn event → Asks m event s
    → Fits m p s.kind s.word → IsPlaceFor m event p
asked_at m (Look hand item) p s o a f = looked_at m p item s.word a.1 (subst (λ k. Fits m p k s.word) a.0 f)
asked_at m (Claim hand) p s o a f = subst (λ k. Fits m p k s.word) a f
asked_at m (Read hand) p s o a f = subst (λ k. Fits m p k s.word) a f
asked_at m (Fill hand) p s o a f = subst (λ k. Fits m p k s.word) a f
asked_at m (Mark hand) p s o a f = subst (λ k. Fits m p k s.word) a f
asked_at m (Deliver hand) p s o a f = subst (λ k. Fits m p k s.word) a f
asked_at m (Left hand) p s o a f = let g : Fits m p load_counter s.word = subst (λ k. Fits m p k s.word) a.0 f in g.0
asked_at m (Another hand) p s o a f = absurd o
asked_at m (GiveUp hand other) p s o a f = absurd o

module _ (m : Meaning) (words : List ℕ) (hands : List HandState) (places : List ReplayPlace)
    (at : ArePlacesOf hands places) (next : List ℕ) (more : List HandState) where
  place_is : (h : ℕ) (v : HandState) → get_elem? hands h ≡ some v → v.place ≡ place_at places h
  place_is h v e = ap (λ y. y.place) (sym (elem_is hands h v given_up e)) ∙ sym (at.each h)

  own_fits : (event : Event) → IsOwn event → OneSteps m event words hands next more
      → IsPlaceFor m event (place_at places (hand_of event))
  own_fits event o d = let s = d.step in
      subst (IsPlaceFor m event) (place_is (hand_of event) d.before d.there)
      (asked_at m event d.before.place s.last o s.asked (fits m words d.before next d.now s.last s.step s.is_last))

  -- an event that is a step has its hands at places for it
  pub step_fits : (event : Event) → Does m event words hands next more → IsStepAt m event places
  step_fits (Look hand item) d = record { hand = own_fits (Look hand item) tt d; other = tt }
  step_fits (Claim hand) d = record { hand = own_fits (Claim hand) tt d; other = tt }
  step_fits (Read hand) d = record { hand = own_fits (Read hand) tt d; other = tt }
  step_fits (Fill hand) d = record { hand = own_fits (Fill hand) tt d; other = tt }
  step_fits (Mark hand) d = record { hand = own_fits (Mark hand) tt d; other = tt }
  step_fits (Deliver hand) d = record { hand = own_fits (Deliver hand) tt d; other = tt }
  step_fits (Left hand) d = record { hand = own_fits (Left hand) tt d; other = tt }
  step_fits (Another hand) d =
      record { hand = sym (place_is hand d.before d.there) ∙ d.idle; other = tt }
  step_fits (GiveUp hand other) d = record {
    hand = subst IsFree (place_is hand d.before d.there) d.free;
    other = (d.apart, subst IsFree (place_is other d.taken d.other_there) d.other_free);
  }
