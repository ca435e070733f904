-- From phase to phase, and from the words of ranges to those of all.
use Rattle.std.proofs.Common.{◌≡◌, ℕ, zero, suc, ◌+◌, ◌-◌, ◌*◌, ◌<◌, ◌≤◌, ◌⊎◌, inl, inr, ⊎_elim, List, ◌++◌, length, get_or, subst, refl, sym, ap, ◌∙◌, arith, length-append, mul-le-mul_right}
use Rattle.std.proofs.lemmas.List.{get_or_append_left, get_or-append-add}
use Rattle.ftl_cells.specs.shared.Work.{Meaning, IsLawfulWork, IsStepOfItem, cell_total, kind_at, item_total, target_of, solved_word}
use Rattle.ftl_cells.specs.shared.State.{AreFirst, AreLast, first_word_of, last_word_of}
use Rattle.ftl_cells.specs.declared.shared.kind.CellKind.{CellKind}
use Rattle.ftl_cells.specs.declared.shared.kind.CellKind.TheVariants.{Given, Target, Later}
use Rattle.ftl_steal.specs.Alone.{IsBefore}
use Rattle.ftl_cells.specs.work_phases.Phases.{CanTake, ComesBefore, phase_at}
use Rattle.ftl_cells.specs.declared.work_phases.phase.Phase.{Phase}
use Rattle.ftl_cells.specs.declared.work_phases.phase.Phase.TheVariants.{First, Range, Last}
use Rattle.ftl_cells.specs.declared.work_phases.phase.Phases.{Phases}
use Rattle.ftl_lots.specs.filling.Filled.{HoldMade, Holds, IsFilledIn, IsMade, IsOfFirst, IsOfFirstOrRanges, IsOfRanges, range_first}
use Rattle.ftl_lots.proofs.filling.Fills.{made_same}

-- ---- phases in their order

-- no step comes before the first of the first item
none_before : (k l : ℕ) → IsBefore k l 0 0 → ⊥
none_before k l b =
    ⊎_elim (λ (x : k < 0). absurd (omega (arith, x))) (λ (x : (k ≡ 0) × (l < 0)). absurd (omega (arith, x.1))) b

-- and no phase before the first one
none_first : (y : Phase) → ComesBefore y First → ⊥
none_first = elim [
  | First ↦ λ b. b
  | Range a ↦ λ b. b
  | Last ↦ λ b. b
]

-- before a range there is the first phase alone
first_alone : (y : Phase) (b : ℕ) → ComesBefore y (Range b) → y ≡ First
first_alone = elim [
  | First ↦ λ b x. refl
  | Range a ↦ λ b x. absurd x
  | Last ↦ λ b x. absurd x
]

-- each phase but the last comes before it
up_to_last : (y : Phase) → (y ≡ Last) ⊎ ComesBefore y Last
up_to_last = elim [
  | First ↦ inr tt
  | Range a ↦ inr tt
  | Last ↦ inl refl
]

below_or : (a b : ℕ) → (a < b) ⊎ (b ≤ a)
below_or a zero = inr (omega arith)
below_or zero (suc b) = inl (omega arith)
below_or (suc a) (suc b) =
    ⊎_elim (λ less. inl (omega (arith, less))) (λ (more : b ≤ a). inr (omega (arith, more))) (below_or a b)

-- ---- the words of all cells

whole_holds : (words : List ℕ) (c w : ℕ) → get_or words c 0 ≡ w → Holds words 0 c w
whole_holds words c w is d same l = subst (λ y. get_or words y 0 ≡ w) (omega (arith, same)) is

whole_is : (words : List ℕ) (c w : ℕ) → c < length words → Holds words 0 c w → get_or words c 0 ≡ w
whole_is words c w b h = h c (omega arith) b

-- a phase on all words
pub on_all : (m : Meaning) (t : Phases) (x : Phase) (words : List ℕ) → IsLawfulWork m → CanTake m t
    → length words ≡ cell_total m → HoldMade m (IsMade t x 0 0) words 0 → IsFilledIn m t x words 0 0 0
on_all m t x words law can count made = record {
  lawful = law;
  taken = can;
  targets = λ i j st phase. (omega arith, omega (arith, law.target_in_range i j st, count));
  reads = λ i j r st near phase. (omega arith, omega (arith, law.read_in_range i j r st near, count));
  made = made;
}

-- before the first phase
pub begins : (m : Meaning) (t : Phases) (words : List ℕ) → IsLawfulWork m → CanTake m t → AreFirst m words
    → IsFilledIn m t First words 0 0 0
begins m t words law can first = on_all m t First words law can first.count (record {
  given = λ c l kind. whole_holds words c (solved_word m c)
      (first.each c l ∙ ap (λ q. first_word_of q (solved_word m c)) kind);
  later = λ c l kind. whole_holds words c 0
      (first.each c l ∙ ap (λ q. first_word_of q (solved_word m c)) kind);
  filled = λ k l st made. absurd (⊎_elim
      (λ (x : (phase_at t k ≡ First) × IsBefore k l 0 0). none_before k l x.1)
      (λ x. none_first (phase_at t k) x) made);
  rest = λ k l st _. let c = target_of m k l in
      whole_holds words c 0 (first.each c (law.target_in_range k l st)
      ∙ ap (λ q. first_word_of q (solved_word m c)) (law.target_kind k l st));
})

-- after the first phase
pub first_made : (m : Meaning) (t : Phases) (words : List ℕ) → IsFilledIn m t First words 0 (item_total m) 0
    → HoldMade m (IsOfFirst t) words 0
first_made m t words f =
    made_same m (IsMade t First (item_total m) 0) (IsOfFirst t) words 0
    (λ k l st. (
      (λ is. inl (is, inl st.item)),
      (λ b. ⊎_elim (λ (x : (phase_at t k ≡ First) × IsBefore k l (item_total m) 0). x.0)
          (λ x. absurd (none_first (phase_at t k) x)) b),
    )) f.made

-- before the last phase
pub last_begins : (m : Meaning) (t : Phases) (words : List ℕ) → IsLawfulWork m → CanTake m t
    → length words ≡ cell_total m → HoldMade m (IsOfFirstOrRanges t 0 t.ranges) words 0
    → IsFilledIn m t Last words 0 0 0
last_begins m t words law can count made =
    on_all m t Last words law can count (made_same m (IsOfFirstOrRanges t 0 t.ranges) (IsMade t Last 0 0) words 0
    (λ k l st. (
      (λ b. ⊎_elim
          (λ (x : (phase_at t k ≡ Last) × IsBefore k l 0 0). absurd (none_before k l x.1))
          (λ x.
          let by : (y : Phase) → phase_at t k ≡ y → ComesBefore y Last → IsOfFirstOrRanges t 0 t.ranges k l = elim [
            | First ↦ λ is before. inl is
            | Range b ↦ λ is before.
                inr (record { range = b; low = omega arith; high = omega (arith, can.known k b is); is = is })
            | Last ↦ λ is before. absurd before
          ] in
          by (phase_at t k) refl x) b),
      (λ b. inr (⊎_elim
          (λ (is : phase_at t k ≡ First). subst (λ y. ComesBefore y Last) (sym is) tt)
          (λ (y : IsOfRanges t 0 t.ranges k). subst (λ z. ComesBefore z Last) (sym y.is) tt) b)),
    ))
    made)

-- after the last phase
pub ends : (m : Meaning) (t : Phases) (words : List ℕ) → IsFilledIn m t Last words 0 (item_total m) 0
    → length words ≡ cell_total m → AreLast m words
ends m t words f count = record {
  count = count;
  each = λ c l.
      let near : c < length words = omega (arith, l, count) in
      let by : (q : CellKind) → kind_at m c ≡ q → get_or words c 0 ≡ last_word_of q (solved_word m c) = elim [
        | Given ↦ λ e. whole_is words c (solved_word m c) near (f.made.given c l e)
        | Target ↦ λ e. let target = f.lawful.each_target c l e in
            let st : IsStepOfItem m target.item target.step = target.known in
            let made : IsMade t Last (item_total m) 0 target.item target.step =
            ⊎_elim (λ same. inl (same, inl st.item)) (λ before. inr before) (up_to_last (phase_at t target.item)) in
            whole_is words c (solved_word m c) near
            (subst (λ y. Holds words 0 y (solved_word m y)) target.is (f.made.filled target.item target.step st made))
        | Later ↦ λ e. whole_is words c 0 near (f.made.later c l e)
      ] in
      by (kind_at m c) refl;
}

-- ---- one range

module _ (m : Meaning) (t : Phases) where
  abbrev from : ℕ → ℕ
  from b = range_first t.size (cell_total m) b

  pub starts : (words : List ℕ) (b first : ℕ) → IsLawfulWork m → CanTake m t → first ≡ from b
      → first + length words ≡ from (b + 1) → HoldMade m (IsOfFirst t) words first
      → IsFilledIn m t (Range b) words first 0 0
  starts words b first law can at count made = record {
    lawful = law;
    taken = can;
    targets = λ i j st phase.
        let near = can.within i j b st phase in
        let low : b * t.size ≤ target_of m i j = near.0 in
        let high : target_of m i j < (b + 1) * t.size = near.1 in
        (omega (arith, low, at), omega (arith, high, at, law.target_in_range i j st, count));
    reads = λ i j r st here phase.
        let near = can.reads i j r b st here phase in
        let low = near.0 in
        let high = near.1 in
        (omega (arith, low, at), omega (arith, high, at, law.read_in_range i j r st here, count));
    made = made_same m (IsOfFirst t) (IsMade t (Range b) 0 0) words first
        (λ k l st. (
          (λ x. ⊎_elim
              (λ (y : (phase_at t k ≡ Range b) × IsBefore k l 0 0). absurd (none_before k l y.1))
              (λ y. first_alone (phase_at t k) b y) x),
          (λ is. inr (subst (λ y. ComesBefore y (Range b)) (sym is) tt)),
        )) made;
  }

  pub range_made : (words : List ℕ) (b first : ℕ) → IsFilledIn m t (Range b) words first (item_total m) 0
      → HoldMade m (IsOfFirstOrRanges t b 1) words first
  range_made words b first f =
      made_same m (IsMade t (Range b) (item_total m) 0) (IsOfFirstOrRanges t b 1) words first
      (λ k l st. (
        (λ x. ⊎_elim
            (λ (is : phase_at t k ≡ First). inr (subst (λ y. ComesBefore y (Range b)) (sym is) tt))
            (λ (y : IsOfRanges t b 1 k).
            let same : y.range ≡ b = omega (arith, y.low, y.high) in
            inl (y.is ∙ ap (λ (n : ℕ). Range n) same, inl st.item)) x),
        (λ x. ⊎_elim
            (λ (y : (phase_at t k ≡ Range b) × IsBefore k l (item_total m) 0).
            inr (record { range = b; low = omega arith; high = omega arith; is = y.0 }))
            (λ y. inl (first_alone (phase_at t k) b y)) x),
      )) f.made

  -- no range
  pub none_made : (words : List ℕ) (b first : ℕ) → HoldMade m (IsOfFirst t) words first
      → HoldMade m (IsOfFirstOrRanges t b 0) words first
  none_made words b first h =
      made_same m (IsOfFirst t) (IsOfFirstOrRanges t b 0) words first
      (λ k l st. (
        (λ x. ⊎_elim (λ is. is) (λ (y : IsOfRanges t b 0 k). absurd (omega (arith, y.low, y.high))) x),
        (λ is. inl is),
      )) h

  -- ---- several ranges

  holds_both : (xs ys : List ℕ) (first c w : ℕ) → Holds xs first c w → Holds ys (first + length xs) c w
      → Holds (xs ++ ys) first c w
  holds_both xs ys first c w left right d is l =
      ⊎_elim (λ less. get_or_append_left xs ys 0 d less ∙ left d is less)
      (λ (more : length xs ≤ d).
      let e = d - length xs in
      let at : d ≡ length xs + e = omega (arith, more) in
      subst (λ y. get_or (xs ++ ys) y 0 ≡ w) (sym at)
      (get_or-append-add xs ys e 0
      ∙ right e (omega (arith, is, at)) (omega (arith, at, l, length-append xs ys))))
      (below_or d (length xs))

  pub made_left : (is_made : (k l : ℕ) → Type 0) (xs ys : List ℕ) (first : ℕ) → HoldMade m is_made (xs ++ ys) first
      → HoldMade m is_made xs first
  made_left is_made xs ys first h =
      let of : (c w : ℕ) → Holds (xs ++ ys) first c w → Holds xs first c w = λ c w holds d is l.
      sym (get_or_append_left xs ys 0 d l) ∙ holds d is (omega (arith, l, length-append xs ys)) in record {
        given = λ c l k. of c (solved_word m c) (h.given c l k);
        later = λ c l k. of c 0 (h.later c l k);
        filled = λ k l st b. of (target_of m k l) (solved_word m (target_of m k l)) (h.filled k l st b);
        rest = λ k l st none. of (target_of m k l) 0 (h.rest k l st none);
      }

  pub made_right : (is_made : (k l : ℕ) → Type 0) (xs ys : List ℕ) (first : ℕ) → HoldMade m is_made (xs ++ ys) first
      → HoldMade m is_made ys (first + length xs)
  made_right is_made xs ys first h =
      let of : (c w : ℕ) → Holds (xs ++ ys) first c w → Holds ys (first + length xs) c w = λ c w holds d is l.
      sym (get_or-append-add xs ys d 0)
      ∙ holds (length xs + d) (omega (arith, is)) (omega (arith, l, length-append xs ys)) in record {
        given = λ c l k. of c (solved_word m c) (h.given c l k);
        later = λ c l k. of c 0 (h.later c l k);
        filled = λ k l st b. of (target_of m k l) (solved_word m (target_of m k l)) (h.filled k l st b);
        rest = λ k l st none. of (target_of m k l) 0 (h.rest k l st none);
      }

  pub made_both : (xs ys : List ℕ) (first b n p : ℕ) → IsLawfulWork m → CanTake m t → first ≡ from b
      → first + length xs ≡ from (b + n) → HoldMade m (IsOfFirstOrRanges t b n) xs first
      → HoldMade m (IsOfFirstOrRanges t (b + n) p) ys (first + length xs)
      → HoldMade m (IsOfFirstOrRanges t b (n + p)) (xs ++ ys) first
  made_both xs ys first b n p law can at next left right = record {
    given = λ c l k. holds_both xs ys first c (solved_word m c) (left.given c l k) (right.given c l k);
    later = λ c l k. holds_both xs ys first c 0 (left.later c l k) (right.later c l k);
    filled = λ k l st x.
        let target = target_of m k l in
        let w = solved_word m target in
        let inside = law.target_in_range k l st in
        ⊎_elim
        (λ (is : phase_at t k ≡ First). holds_both xs ys first target w (left.filled k l st (inl is))
        (right.filled k l st (inl is)))
        (λ (y : IsOfRanges t b (n + p) k).
        let near = can.within k l y.range st y.is in
        let low : y.range * t.size ≤ target = near.0 in
        let high : target < (y.range + 1) * t.size = near.1 in
        ⊎_elim
        (λ (less : y.range < b + n).
        let up : (y.range + 1) * t.size ≤ (b + n) * t.size = mul-le-mul_right t.size (omega (arith, less)) in
        holds_both xs ys first target w
        (left.filled k l st (inr (record { range = y.range; low = y.low; high = less; is = y.is })))
        (λ d is l. absurd (omega (arith, is, next, high, up, inside))))
        (λ (more : b + n ≤ y.range).
        let up : (b + n) * t.size ≤ y.range * t.size = mul-le-mul_right t.size more in
        holds_both xs ys first target w
        (λ d is l. absurd (omega (arith, is, l, next, low, up)))
        (right.filled k l st
        (inr (record { range = y.range; low = more; high = omega (arith, y.high); is = y.is }))))
        (below_or y.range (b + n))) x;
    rest = λ k l st none. holds_both xs ys first (target_of m k l) 0
        (left.rest k l st (λ x. none (⊎_elim (λ (is : phase_at t k ≡ First). inl is)
        (λ (y : IsOfRanges t b n k).
        inr (record { range = y.range; low = y.low; high = omega (arith, y.high); is = y.is })) x)))
        (right.rest k l st (λ x. none (⊎_elim (λ (is : phase_at t k ≡ First). inl is)
        (λ (y : IsOfRanges t (b + n) p k).
        inr (record { range = y.range; low = omega (arith, y.low); high = omega (arith, y.high); is = y.is })) x)));
  }
