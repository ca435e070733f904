-- A hand that stands where a kind of step is made makes it, and where it stands then.
use Rattle.std.proofs.Common.{◌≡◌, ◌≢◌, ℕ, suc, ◌+◌, ◌-◌, ◌<◌, ◌≤◌, subst, refl, sym, ap, ◌∙◌, arith, List, get_or, set}
use Rattle.std.specs.Prelude.{Some}
use Rattle.std.proofs.lemmas.Grind.{get_or_default_zero}
use Rattle.ftl_cells.specs.shared.Work.{Meaning, item_total, next_total, next_at, step_total, target_of, read_total, read_of, solved_word}
use Rattle.ftl_cells.specs.shared.State.{live, after, after_delivery, load_counter, claim, load_cell, store_cell, mark, delivery, Sends, finds_ready, finds_waiting, claims, misses, reads, fills, marks, sends, finishes, ends, finds_left, end_word, cell_word, state_word, count_word, word_total}
use Rattle.ftl_cells.specs.shared.Kept.{stage_now, IsWorkingAt, IsInRange}
use Rattle.ftl_cells.specs.declared.shared.place.HandPlace.{HandPlace}
use Rattle.ftl_cells.specs.declared.shared.place.HandPlace.TheVariants.{Idle, Looked, Working, Filled, Sending, Ended}
use Rattle.ftl_cells.proofs.shared.Deliveries.{next_counter, end_counter}
use Rattle.ftl_cells.proofs.shared.Found.{read_is}
use Rattle.ftl_replay.specs.declared.interleavings.event.Event.TheVariants.{Look, Claim, Read, Fill, Mark, Deliver, Left}
use Rattle.ftl_replay.specs.interleavings.Replays.{IsStageWith, StepsTo}

module _ (m : Meaning) (words : List ℕ) (hand : ℕ) where
  pub looks_ready : (p : HandPlace) (item : ℕ) → p ≡ Idle → item < item_total m
      → get_or words (count_word m item) 0 ≡ 0 → StepsTo m (Look hand item) words p words (Looked item)
  looks_ready p item e b z = record {
    each = λ v at. (
      after v (live (Looked item)) load_counter (count_word m item) (Some 0),
      record {
        step = finds_ready item (at ∙ ap live e) b z;
        last = record { kind = load_counter; word = count_word m item; held = Some 0 };
        is_last = refl;
        asked = (refl, refl);
      },
      refl,
    );
  }

  pub looks_waiting : (p : HandPlace) (item : ℕ) → p ≡ Idle → item < item_total m
      → get_or words (count_word m item) 0 ≢ 0 → StepsTo m (Look hand item) words p words Idle
  looks_waiting p item e b z = record {
    each = λ v at. (
      after v (live Idle) load_counter (count_word m item) (Some (get_or words (count_word m item) 0)),
      record {
        step = finds_waiting item (at ∙ ap live e) b z;
        last = record
            { kind = load_counter; word = count_word m item; held = Some (get_or words (count_word m item) 0) };
        is_last = refl;
        asked = (refl, refl);
      },
      refl,
    );
  }

  pub claims_free : (item : ℕ) → get_or words (state_word m item) 0 ≡ 0
      → StepsTo m (Claim hand) words (Looked item) (set words (state_word m item) 1) (Working item 0 0)
  claims_free item z = record {
    each = λ v at. (
      after v (live (Working item 0 0)) claim (state_word m item) (Some 0),
      record {
        step = claims item at z;
        last = record { kind = claim; word = state_word m item; held = Some 0 };
        is_last = refl;
        asked = refl;
      },
      refl,
    );
  }

  pub claims_taken : (item : ℕ) → get_or words (state_word m item) 0 ≢ 0
      → StepsTo m (Claim hand) words (Looked item) words Idle
  claims_taken item z = record {
    each = λ v at. (
      after v (live Idle) claim (state_word m item) (Some (get_or words (state_word m item) 0)),
      record {
        step = misses item at z;
        last = record { kind = claim; word = state_word m item; held = Some (get_or words (state_word m item) 0) };
        is_last = refl;
        asked = refl;
      },
      refl,
    );
  }

  pub reads_next : (i j r : ℕ) → j < step_total m i → r < read_total m i j
      → StepsTo m (Read hand) words (Working i j r) words (Working i j (r + 1))
  reads_next i j r b c = record {
    each = λ v at. (
      after v (live (Working i j (r + 1))) load_cell (cell_word (read_of m i j r))
          (Some (get_or words (cell_word (read_of m i j r)) 0)),
      record {
        step = reads i j r at b c;
        last = record {
          kind = load_cell;
          word = cell_word (read_of m i j r);
          held = Some (get_or words (cell_word (read_of m i j r)) 0);
        };
        is_last = refl;
        asked = refl;
      },
      refl,
    );
  }

  pub fills_target : (i j r : ℕ) → j < step_total m i → r ≡ read_total m i j
      → StepsTo m (Fill hand) words (Working i j r)
      (set words (cell_word (target_of m i j)) (solved_word m (target_of m i j))) (Working i (j + 1) 0)
  fills_target i j r b c = record {
    each = λ v at. (
      after v (live (Working i (j + 1) 0)) store_cell (cell_word (target_of m i j))
          (Some (get_or words (cell_word (target_of m i j)) 0)),
      record {
        step = fills i j r at b c;
        last = record {
          kind = store_cell;
          word = cell_word (target_of m i j);
          held = Some (get_or words (cell_word (target_of m i j)) 0);
        };
        is_last = refl;
        asked = refl;
      },
      refl,
    );
  }

  pub marks_item : (i j r : ℕ) → j ≡ step_total m i
      → StepsTo m (Mark hand) words (Working i j r) (set words (state_word m i) 2) (Filled i)
  marks_item i j r b = record {
    each = λ v at. (
      after v (live (Filled i)) mark (state_word m i) (Some (get_or words (state_word m i) 0)),
      record {
        step = marks i j r at b;
        last = record { kind = mark; word = state_word m i; held = Some (get_or words (state_word m i) 0) };
        is_last = refl;
        asked = refl;
      },
      refl,
    );
  }

  pub sends_one : (p : HandPlace) (i k left : ℕ) → Sends (live p) i k → k < next_total m i
      → get_or words (count_word m (next_at m i k)) 0 ≡ suc left
      → StepsTo m (Deliver hand) words p (set words (count_word m (next_at m i k)) left) (Sending i (k + 1))
  sends_one p i k left s b z = record {
    each = λ v at. (
      after_delivery v i k (next_at m i k) (count_word m (next_at m i k)) left,
      record {
        step = sends i k left (subst (λ q. Sends q i k) (sym at) s) b z;
        last = record { kind = delivery; word = count_word m (next_at m i k); held = Some (suc left) };
        is_last = refl;
        asked = refl;
      },
      refl,
    );
  }

  pub finishes_item : (p : HandPlace) (i k left : ℕ) → Sends (live p) i k → k ≡ next_total m i
      → get_or words end_word 0 ≡ suc left
      → StepsTo m (Deliver hand) words p (set words end_word left) Idle
  finishes_item p i k left s b z = record {
    each = λ v at. (
      after v (live Idle) delivery end_word (Some (suc left)),
      record {
        step = finishes i k left (subst (λ q. Sends q i k) (sym at) s) b z;
        last = record { kind = delivery; word = end_word; held = Some (suc left) };
        is_last = refl;
        asked = refl;
      },
      refl,
    );
  }

  pub ends_here : (p : HandPlace) → p ≡ Idle → get_or words end_word 0 ≡ 0
      → StepsTo m (Left hand) words p words Ended
  ends_here p e z = record {
    each = λ v at. (
      after v (live Ended) load_counter end_word (Some 0),
      record {
        step = ends (at ∙ ap live e) z;
        last = record { kind = load_counter; word = end_word; held = Some 0 };
        is_last = refl;
        asked = (refl, refl);
      },
      refl,
    );
  }

  pub finds_more : (p : HandPlace) → p ≡ Idle → get_or words end_word 0 ≢ 0
      → StepsTo m (Left hand) words p words Idle
  finds_more p e z = record {
    each = λ v at. (
      after v (live Idle) load_counter end_word (Some (get_or words end_word 0)),
      record {
        step = finds_left (at ∙ ap live e) z;
        last = record { kind = load_counter; word = end_word; held = Some (get_or words end_word 0) };
        is_last = refl;
        asked = (refl, refl);
      },
      refl,
    );
  }

bounded : (m : Meaning) (p : HandPlace) (i k : ℕ) → IsInRange m (live p) → Sends (live p) i k → k ≢ next_total m i
    → k < next_total m i
bounded m Idle i k r w ne = absurd w
bounded m (Looked item) i k r w ne = absurd w
bounded m (Working item j n) i k r w ne = absurd w
bounded m (Filled item) i k r w ne = omega arith
bounded m (Sending item sent) i k r w ne =
    let b : sent ≤ next_total m i = subst (λ y. sent ≤ next_total m y) w.0 r.1 in omega arith
bounded m Ended i k r w ne = absurd w

module _ (m : Meaning) (words : List ℕ) (p : HandPlace) (s : IsStageWith m words p) where
  -- the numbers of the place are in range
  pub in_range : IsInRange m (live p)
  in_range = let rule = s.kept.rule in subst (IsInRange m) s.at (rule.in_range s.hand)

  -- what an index finds, whatever the default
  pub found : (a x : ℕ) → a < word_total m → x ≡ get_or words a x → get_or words a 0 ≡ x
  found a x b e = sym (get_or_default_zero words a x (omega (arith, s.kept.count))) ∙ sym e

  -- the counter that a delivery takes from is not 0
  pub counter_left : (i k : ℕ) → Sends (live p) i k → k < next_total m i
      → (left : ℕ) × (get_or words (count_word m (next_at m i k)) 0 ≡ suc left)
  counter_left i k sent b = next_counter m s.lawful (stage_now m words s.hands) s.hand i k
      (subst (λ q. Sends q i k) (sym s.at) sent) s.kept.rule b

  pub end_left : (i k : ℕ) → Sends (live p) i k → (left : ℕ) × (get_or words end_word 0 ≡ suc left)
  end_left i k sent = end_counter m s.lawful (stage_now m words s.hands) s.hand i k
      (subst (λ q. Sends q i k) (sym s.at) sent) s.kept.rule

  pub counter_some : (a i k : ℕ) → Sends (live p) i k → k < next_total m i → a ≡ count_word m (next_at m i k)
      → 0 < get_or words a 0
  counter_some a i k sent b e = let l = counter_left i k sent b in
      let is : get_or words a 0 ≡ suc l.0 = ap (λ y. get_or words y 0) e ∙ l.1 in omega arith

  pub end_some : (i k : ℕ) → Sends (live p) i k → 0 < get_or words 0 0
  end_some i k sent = let l = end_left i k sent in let is : get_or words 0 0 ≡ suc l.0 = l.1 in omega arith

  pub sends_less : (hand : ℕ) (next : List ℕ) (a i k : ℕ) → Sends (live p) i k → k < next_total m i
      → a ≡ count_word m (next_at m i k) → next ≡ set words a (get_or words a 0 - 1)
      → StepsTo m (Deliver hand) words p next (Sending i (k + 1))
  sends_less hand next a i k sent b e made = let l = counter_left i k sent b in
      let is : get_or words a 0 ≡ suc l.0 = ap (λ y. get_or words y 0) e ∙ l.1 in
      let less : get_or words a 0 - 1 ≡ l.0 = omega arith in
      subst (λ ws. StepsTo m (Deliver hand) words p ws (Sending i (k + 1)))
      (sym (made ∙ ap (λ x. set words a x) less ∙ ap (λ y. set words y l.0) e))
      (sends_one m words hand p i k l.0 sent b l.1)

  pub finishes_less : (hand : ℕ) (next : List ℕ) (i k : ℕ) → Sends (live p) i k → k ≡ next_total m i
      → next ≡ set words 0 (get_or words 0 0 - 1) → StepsTo m (Deliver hand) words p next Idle
  finishes_less hand next i k sent b made = let l = end_left i k sent in
      let is : get_or words 0 0 ≡ suc l.0 = l.1 in
      let less : get_or words 0 0 - 1 ≡ l.0 = omega arith in
      subst (λ ws. StepsTo m (Deliver hand) words p ws Idle) (sym (made ∙ ap (λ x. set words 0 x) less))
      (finishes_item m words hand p i k l.0 sent b l.1)

  -- a hand has sent at most to all next items
  pub sent_bound : (i k : ℕ) → Sends (live p) i k → k ≢ next_total m i → k < next_total m i
  sent_bound i k sent ne = bounded m p i k in_range sent ne

-- a cell that the hand has read or will read holds the solution's word
pub reads_hold : (m : Meaning) (words : List ℕ) (i j r : ℕ) → IsStageWith m words (Working i j r) → j < step_total m i
    → (k : ℕ) → k < read_total m i j → get_or words (cell_word (read_of m i j k)) 0 ≡ solved_word m (read_of m i j k)
reads_hold m words i j r s b k c = read_is m s.lawful (stage_now m words s.hands) s.kept.rule s.hand i j k
    (subst (λ p. IsWorkingAt p i j) (sym s.at) (refl, refl)) b c
