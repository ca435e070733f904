-- What a step makes of the words and of its hand is decided by its kind and its word, so an event leads to one state.
use Rattle.std.proofs.Common.{◌≡◌, ◌≢◌, ℕ, zero, suc, ◌+◌, ◌-◌, subst, refl, sym, ap, ◌∙◌, arith, List, [], ◌∷◌, ◌++◌, get_or, set, Some, None}
use mathlib.Core.Option.{some, some-injective}
use lib.ListN.{get_elem?}
use Rattle.ftl_cells.specs.shared.Work.{Meaning, cell_total, item_total, next_total, next_at, target_of, read_of, solved_word}
use Rattle.ftl_cells.specs.shared.State.{Place, live, spent, OneStep, HandState, newcomer, next_name, given_up, after, after_join, after_delivery, StepKind, load_counter, claim, load_cell, store_cell, mark, delivery, split, join, Sends, Steps, finds_ready, finds_waiting, claims, misses, reads, fills, marks, sends, finishes, ends, finds_left, end_word, cell_word, state_word, count_word}
use Rattle.ftl_cells.specs.declared.shared.place.HandPlace.TheVariants.{Idle, Looked, Working, Filled, Sending, Ended}
use Rattle.ftl_replay.specs.declared.interleavings.event.Event.{Event}
use Rattle.ftl_replay.specs.declared.interleavings.event.Event.TheVariants.{Look, Claim, Read, Fill, Mark, Deliver, Left, Another, GiveUp}
use Rattle.ftl_replay.specs.interleavings.Events.{hand_of, IsOwn, Asks, OneSteps, OneSplits, OneJoins, Does}

-- the words and the hand after a step
record Outcome : Type 0 where
  words : List ℕ
  hand : HandState

abbrev out : List ℕ → HandState → Outcome
out ws w = record { words = ws; hand = w }

module _ (m : Meaning) (words : List ℕ) (v : HandState) where
  abbrev waits : ℕ → ℕ → Outcome
  waits a n = out words (after v (live Idle) load_counter a (Some n))

  abbrev looked : ℕ → ℕ → Outcome
  looked a i = out words (after v (live (Looked i)) load_counter a (Some 0))

  -- after a load of a counter, by its word and what that held
  abbrev loaded : ℕ → ℕ → Outcome
  loaded zero zero = out words (after v (live Ended) load_counter 0 (Some 0))
  loaded zero (suc n) = waits 0 (suc n)
  loaded (suc a) zero = looked (suc a) (suc a - (1 + cell_total m + item_total m))
  loaded (suc a) (suc n) = waits (suc a) (suc n)

  ready : (a i n : ℕ) → a ≡ count_word m i → n ≡ 0 → looked a i ≡ loaded a n
  ready zero i n e z = absurd (omega arith)
  ready (suc a) i n e z =
      let back : i ≡ suc a - (1 + cell_total m + item_total m) = omega arith in
      subst (λ y. looked (suc a) i ≡ loaded (suc a) y) (sym z) (ap (λ y. looked (suc a) y) back)

  waiting : (a n : ℕ) → n ≢ 0 → waits a n ≡ loaded a n
  waiting zero zero ne = absurd (ne refl)
  waiting zero (suc n) ne = refl
  waiting (suc a) zero ne = absurd (ne refl)
  waiting (suc a) (suc n) ne = refl

  abbrev missed : ℕ → ℕ → Outcome
  missed i n = out words (after v (live Idle) claim (state_word m i) (Some n))

  abbrev claimed : ℕ → ℕ → Outcome
  claimed i zero = out (set words (state_word m i) 1) (after v (live (Working i 0 0)) claim (state_word m i) (Some 0))
  claimed i (suc n) = missed i (suc n)

  missing : (i n : ℕ) → n ≢ 0 → missed i n ≡ claimed i n
  missing i zero ne = absurd (ne refl)
  missing i (suc n) ne = refl

  abbrev on_claim : Place → Outcome
  on_claim (live (Looked i)) = claimed i (get_or words (state_word m i) 0)
  on_claim p = out words v

  abbrev on_read : Place → Outcome
  on_read (live (Working i j r)) = out words
      (after v (live (Working i j (r + 1))) load_cell (cell_word (read_of m i j r))
      (Some (get_or words (cell_word (read_of m i j r)) 0)))
  on_read p = out words v

  abbrev on_fill : Place → Outcome
  on_fill (live (Working i j r)) = out (set words (cell_word (target_of m i j)) (solved_word m (target_of m i j)))
      (after v (live (Working i (j + 1) 0)) store_cell (cell_word (target_of m i j))
      (Some (get_or words (cell_word (target_of m i j)) 0)))
  on_fill p = out words v

  abbrev on_mark : Place → Outcome
  on_mark (live (Working i j r)) = out (set words (state_word m i) 2)
      (after v (live (Filled i)) mark (state_word m i) (Some (get_or words (state_word m i) 0)))
  on_mark p = out words v

  abbrev sent : ℕ → ℕ → ℕ → Outcome
  sent i k left = out (set words (count_word m (next_at m i k)) left)
      (after_delivery v i k (next_at m i k) (count_word m (next_at m i k)) left)

  abbrev finished : ℕ → Outcome
  finished left = out (set words end_word left) (after v (live Idle) delivery end_word (Some (suc left)))

  -- a delivery, by how many next items are left
  abbrev delivered : ℕ → ℕ → ℕ → Outcome
  delivered i k zero = finished (get_or words end_word 0 - 1)
  delivered i k (suc rest) = sent i k (get_or words (count_word m (next_at m i k)) 0 - 1)

  sending : (i k rest left : ℕ) → rest ≢ 0 → get_or words (count_word m (next_at m i k)) 0 ≡ suc left
      → sent i k left ≡ delivered i k rest
  sending i k zero left ne z = absurd (ne refl)
  sending i k (suc rest) left ne z =
      let less : left ≡ get_or words (count_word m (next_at m i k)) 0 - 1 = omega arith in ap (λ y. sent i k y) less

  finishing : (i k rest left : ℕ) → rest ≡ 0 → get_or words end_word 0 ≡ suc left → finished left ≡ delivered i k rest
  finishing i k zero left e z = let less : left ≡ get_or words end_word 0 - 1 = omega arith in ap finished less
  finishing i k (suc rest) left e z = absurd (omega arith)

  abbrev on_delivery : Place → Outcome
  on_delivery (live (Filled i)) = delivered i 0 (next_total m i - 0)
  on_delivery (live (Sending i k)) = delivered i k (next_total m i - k)
  on_delivery p = out words v

  delivers : (p : Place) (i k : ℕ) → Sends p i k → delivered i k (next_total m i - k) ≡ on_delivery p
  delivers (live Idle) i k s = absurd s
  delivers (live (Looked item)) i k s = absurd s
  delivers (live (Working item j r)) i k s = absurd s
  delivers (live (Filled item)) i k s = sym
      (ap (λ y. delivered y 0 (next_total m y - 0)) s.0 ∙ ap (λ y. delivered i y (next_total m i - y)) s.1)
  delivers (live (Sending item n)) i k s = sym
      (ap (λ y. delivered y n (next_total m y - n)) s.0 ∙ ap (λ y. delivered i y (next_total m i - y)) s.1)
  delivers (live Ended) i k s = absurd s
  delivers spent i k s = absurd s

  abbrev result : StepKind → ℕ → Outcome
  result load_counter word = loaded word (get_or words word 0)
  result claim word = on_claim v.place
  result load_cell word = on_read v.place
  result store_cell word = on_fill v.place
  result mark word = on_mark v.place
  result delivery word = on_delivery v.place
  result split word = out words v
  result join word = out words v

  same_step : (s t : OneStep) (o : Outcome) → Some s ≡ Some t → o ≡ result s.kind s.word → o ≡ result t.kind t.word
  same_step s t o e f = let is : s ≡ t = cc in subst (λ y. o ≡ result y.kind y.word) is f

  results : (next : List ℕ) (w : HandState) (s : OneStep) → Steps m words v next w → w.last ≡ Some s
      → out next w ≡ result s.kind s.word
  results next w s (finds_ready i e b z) is = same_step
      (record { kind = load_counter; word = count_word m i; held = Some 0 }) s (looked (count_word m i) i) is
      (ready (count_word m i) i (get_or words (count_word m i) 0) refl z)
  results next w s (finds_waiting i e b ne) is = same_step
      (record { kind = load_counter; word = count_word m i; held = Some (get_or words (count_word m i) 0) }) s
      (waits (count_word m i) (get_or words (count_word m i) 0)) is
      (waiting (count_word m i) (get_or words (count_word m i) 0) ne)
  results next w s (claims i e z) is = same_step
      (record { kind = claim; word = state_word m i; held = Some 0 }) s (claimed i 0) is
      (ap (λ y. claimed i y) (sym z) ∙ ap on_claim (sym e))
  results next w s (misses i e ne) is = same_step
      (record { kind = claim; word = state_word m i; held = Some (get_or words (state_word m i) 0) }) s
      (missed i (get_or words (state_word m i) 0)) is
      (missing i (get_or words (state_word m i) 0) ne ∙ ap on_claim (sym e))
  results next w s (reads i j r e b c) is = same_step (record {
    kind = load_cell;
    word = cell_word (read_of m i j r);
    held = Some (get_or words (cell_word (read_of m i j r)) 0);
  }) s (on_read (live (Working i j r))) is (ap on_read (sym e))
  results next w s (fills i j r e b c) is = same_step (record {
    kind = store_cell;
    word = cell_word (target_of m i j);
    held = Some (get_or words (cell_word (target_of m i j)) 0);
  }) s (on_fill (live (Working i j r))) is (ap on_fill (sym e))
  results next w s (marks i j r e b) is = same_step
      (record { kind = mark; word = state_word m i; held = Some (get_or words (state_word m i) 0) }) s
      (on_mark (live (Working i j r))) is (ap on_mark (sym e))
  results next w s (sends i k left e b z) is = same_step
      (record { kind = delivery; word = count_word m (next_at m i k); held = Some (suc left) }) s (sent i k left) is
      (sending i k (next_total m i - k) left (λ q. omega arith) z ∙ delivers v.place i k e)
  results next w s (finishes i k left e b z) is = same_step
      (record { kind = delivery; word = end_word; held = Some (suc left) }) s (finished left) is
      (finishing i k (next_total m i - k) left (omega arith) z ∙ delivers v.place i k e)
  results next w s (ends e z) is = same_step
      (record { kind = load_counter; word = end_word; held = Some 0 }) s (loaded 0 0) is
      (ap (λ y. loaded 0 y) (sym z))
  results next w s (finds_left e ne) is = same_step
      (record { kind = load_counter; word = end_word; held = Some (get_or words end_word 0) }) s
      (waits 0 (get_or words end_word 0)) is (waiting 0 (get_or words end_word 0) ne)

  asked_same : (event : Event) (s t : OneStep) → IsOwn event → Asks m event s → Asks m event t
      → result s.kind s.word ≡ result t.kind t.word
  asked_same (Look hand item) s t o a b = ap (λ k. result k s.word) a.0
      ∙ ap (λ y. result load_counter y) (a.1 ∙ sym b.1)
      ∙ sym (ap (λ k. result k t.word) b.0)
  asked_same (Claim hand) s t o a b = ap (λ k. result k s.word) a ∙ sym (ap (λ k. result k t.word) b)
  asked_same (Read hand) s t o a b = ap (λ k. result k s.word) a ∙ sym (ap (λ k. result k t.word) b)
  asked_same (Fill hand) s t o a b = ap (λ k. result k s.word) a ∙ sym (ap (λ k. result k t.word) b)
  asked_same (Mark hand) s t o a b = ap (λ k. result k s.word) a ∙ sym (ap (λ k. result k t.word) b)
  asked_same (Deliver hand) s t o a b = ap (λ k. result k s.word) a ∙ sym (ap (λ k. result k t.word) b)
  asked_same (Left hand) s t o a b = ap (λ k. result k s.word) a.0 ∙ ap (λ y. result load_counter y) (a.1 ∙ sym b.1)
      ∙ sym (ap (λ k. result k t.word) b.0)
  asked_same (Another hand) s t o a b = absurd o
  asked_same (GiveUp hand other) s t o a b = absurd o

module _ (m : Meaning) (words : List ℕ) (hands : List HandState) (next last : List ℕ) (more most : List HandState) where
  same_hand : (h : ℕ) (v w : HandState) → get_elem? hands h ≡ some v → get_elem? hands h ≡ some w → v ≡ w
  same_hand h v w d e = some-injective v w (sym d ∙ e)

  own_one : (event : Event) → IsOwn event → OneSteps m event words hands next more
      → OneSteps m event words hands last most → (next ≡ last) × (more ≡ most)
  own_one event o d e =
      let s = d.step in
      let t = e.step in
      let v : d.before ≡ e.before = same_hand (hand_of event) d.before e.before d.there e.there in
      let same : out next d.now ≡ out last e.now =
      results m words d.before next d.now s.last s.step s.is_last
      ∙ asked_same m words d.before event s.last t.last o s.asked t.asked
      ∙ sym
      (results m words d.before last e.now t.last (subst (λ y. Steps m words y last e.now) (sym v) t.step) t.is_last) in
      (ap (λ y. y.words) same, d.then ∙ ap (λ y. set hands (hand_of event) y.hand) same ∙ sym e.then)

  split_one : (h : ℕ) → OneSplits m h words hands next more → OneSplits m h words hands last most
      → (next ≡ last) × (more ≡ most)
  split_one h d e = (
    d.same ∙ sym e.same,
    d.then
        ∙ ap (λ y. set hands h (after y y.place split end_word None) ++ newcomer m (next_name y) ∷ [])
        (same_hand h d.before e.before d.there e.there) ∙ sym e.then,
  )

  join_one : (h other : ℕ) → OneJoins h other words hands next more → OneJoins h other words hands last most
      → (next ≡ last) × (more ≡ most)
  join_one h other d e = (
    d.same ∙ sym e.same,
    d.then
        ∙ ap (λ y. set (set hands h (after_join y d.taken)) other given_up)
        (same_hand h d.before e.before d.there e.there)
        ∙ ap (λ y. set (set hands h (after_join e.before y)) other given_up)
        (same_hand other d.taken e.taken d.other_there e.other_there) ∙ sym e.then,
  )

  -- an event leads to one state
  pub one_state : (event : Event) → Does m event words hands next more → Does m event words hands last most
      → (next ≡ last) × (more ≡ most)
  one_state (Look hand item) d e = own_one (Look hand item) tt d e
  one_state (Claim hand) d e = own_one (Claim hand) tt d e
  one_state (Read hand) d e = own_one (Read hand) tt d e
  one_state (Fill hand) d e = own_one (Fill hand) tt d e
  one_state (Mark hand) d e = own_one (Mark hand) tt d e
  one_state (Deliver hand) d e = own_one (Deliver hand) tt d e
  one_state (Left hand) d e = own_one (Left hand) tt d e
  one_state (Another hand) d e = split_one hand d e
  one_state (GiveUp hand other) d e = join_one hand other d e
