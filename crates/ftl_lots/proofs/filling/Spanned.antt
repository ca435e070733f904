-- Items of a phase that lie in a span, and items that are passed over.
use Rattle.std.proofs.Common.{◌≡◌, ◌≢◌, ◌↔◌, ℕ, ◌+◌, ◌<◌, ◌≤◌, inl, inr, ⊎_elim, List, length, get_or, set, replicate, min, subst, sym, ◌∙◌, arith}
use Rattle.std.proofs.lemmas.List.{get_or-replicate, length-replicate, get_or-set_same, get_or-set_other, length-set}
use Rattle.std.proofs.lemmas.Bool.{cases_lt}
use mathlib.Core.Logic.{dite}
use native.Mathlib.Decide.{ℕ_discrete}
use Rattle.ftl_cells.specs.shared.Work.{Meaning, IsStepOfItem, item_total, step_total}
use Rattle.ftl_steal.specs.Alone.{IsBefore}
use Rattle.ftl_cells.specs.work_phases.Phases.{phase_at}
use Rattle.ftl_cells.specs.declared.work_phases.phase.Phase.{Phase}
use Rattle.ftl_cells.specs.declared.work_phases.phase.Phase.TheVariants.{Range}
use Rattle.ftl_cells.specs.declared.work_phases.phase.Phases.{Phases}
use Rattle.ftl_lots.specs.declared.filling.blocks.ItemBlocks.{ItemBlocks}
use Rattle.ftl_lots.specs.declared.filling.spans.Span.{Span}
use Rattle.ftl_lots.specs.filling.Blocks.{AreIdle, IsPassedOver}
use Rattle.ftl_lots.specs.filling.Filled.{IsFilledIn, IsMade}
use Rattle.ftl_lots.specs.filling.Spans.{AreSpans, IsSpanOf}
use Rattle.ftl_lots.proofs.filling.Fills.{made_same}

-- what is made before one item is made before another, if no item of the phase lies between them
made_to : (t : Phases) (x : Phase) (i j k l : ℕ) → (phase_at t k ≡ x → k < i → k < j) → IsMade t x i 0 k l
    → IsMade t x j 0 k l
made_to t x i j k l step b = ⊎_elim
    (λ (y : (phase_at t k ≡ x) × IsBefore k l i 0). inl (
      y.0,
      inl (step y.0 (⊎_elim (λ (z : k < i). z) (λ (z : (k ≡ i) × (l < 0)). absurd (omega (arith, z.1))) y.1)),
    ))
    (λ y. inr y) b

-- from one item to another, if none of the phase with a step lies between them
moves_to : (m : Meaning) (t : Phases) (x : Phase) (words : List ℕ) (first i j : ℕ)
    → ((k l : ℕ) → IsStepOfItem m k l → phase_at t k ≡ x → (k < i) ↔ (k < j)) → IsFilledIn m t x words first i 0
    → IsFilledIn m t x words first j 0
moves_to m t x words first i j same f = record {
  lawful = f.lawful;
  taken = f.taken;
  targets = f.targets;
  reads = f.reads;
  made = made_same m (IsMade t x i 0) (IsMade t x j 0) words first
      (λ k l st. (
        made_to t x j i k l (λ is. (same k l st is).1),
        made_to t x i j k l (λ is. (same k l st is).0),
      )) f.made;
}

-- to where the span begins
pub enters : (m : Meaning) (t : Phases) (x : Phase) (words : List ℕ) (first : ℕ) (span : Span)
    → IsSpanOf t (item_total m) x span → IsFilledIn m t x words first 0 0 → IsFilledIn m t x words first span.from 0
enters m t x words first span s f = moves_to m t x words first 0 span.from
    (λ k l st is. let b = s.each k st.item is in
    ((λ z. absurd (omega (arith, z))), (λ z. absurd (omega (arith, z, b.0))))) f

-- and from where it ends
pub leaves : (m : Meaning) (t : Phases) (x : Phase) (words : List ℕ) (first i : ℕ) (span : Span)
    → IsSpanOf t (item_total m) x span → span.to ≤ i → IsFilledIn m t x words first i 0
    → IsFilledIn m t x words first (item_total m) 0
leaves m t x words first i span s past f = moves_to m t x words first i (item_total m)
    (λ k l st is. let b = s.each k st.item is in ((λ z. st.item), (λ z. omega (arith, b.1, past)))) f

-- a step's item isn't passed over
not_passed : (m : Meaning) (b : ItemBlocks) (k l : ℕ) → AreIdle m b → IsStepOfItem m k l → IsPassedOver b k → ⊥
not_passed m b k l idle st passed =
    let none : step_total m k ≡ 0 = idle k st.item passed in
    omega (arith, none, st.step)

-- from one item on to another, if those between are passed over
pub goes_over : (m : Meaning) (t : Phases) (x : Phase) (words : List ℕ) (first i j : ℕ) (b : ItemBlocks) → AreIdle m b
    → i ≤ j → ((k : ℕ) → i ≤ k → k < j → IsPassedOver b k) → IsFilledIn m t x words first i 0
    → IsFilledIn m t x words first j 0
goes_over m t x words first i j b idle up passed f = moves_to m t x words first i j
    (λ k l st is. (
      (λ z. omega (arith, z, up)),
      (λ z. ⊎_elim (λ (less : k < i). less)
          (λ (more : i ≤ k). absurd (not_passed m b k l idle st (passed k more z))) (cases_lt k i)),
    )) f

-- ---- spans that are found item by item

module _ (t : Phases) where
  -- of no items
  pub none_spanned : (n : ℕ) (none : Span) → none.to ≡ 0 → AreSpans t 0 (replicate n none)
  none_spanned n none z b d l =
      let is : get_or (replicate n none) b d ≡ none =
      get_or-replicate n b none d (omega (arith, l, length-replicate {A = Span} n none)) in
      subst (IsSpanOf t 0 (Range b)) (sym is) (record {
        below = omega (arith, z);
        each = λ i near phase. absurd (omega (arith, near));
      })

  -- one item more, which is not of the phase
  more : (n : ℕ) (x : Phase) (span : Span) → phase_at t n ≢ x → IsSpanOf t n x span → IsSpanOf t (n + 1) x span
  more n x span other s = record {
    below = omega (arith, s.below);
    each = λ i l is. dite (ℕ_discrete i n)
        (λ e. absurd (other (subst (λ k. phase_at t k ≡ x) e is)))
        (λ ne. s.each i (omega (arith, l, ne)) is);
  }

  -- one item more, of the phase
  wider : (n : ℕ) (x : Phase) (span new : Span) → new.from ≡ min span.from n → new.to ≡ n + 1
      → IsSpanOf t n x span → IsSpanOf t (n + 1) x new
  wider n x span new from to s = record {
    below = omega (arith, to);
    each = λ i l is. dite (ℕ_discrete i n)
        (λ e. (omega (arith, from, e), omega (arith, to, e)))
        (λ ne. let b = s.each i (omega (arith, l, ne)) is in
        (omega (arith, from, b.0), omega (arith, to, l)));
  }

  -- an item that is of no range
  pub spans_stay : (n : ℕ) (spans : List Span) → ((b : ℕ) → phase_at t n ≢ Range b) → AreSpans t n spans
      → AreSpans t (n + 1) spans
  spans_stay n spans none s b d l = more n (Range b) (get_or spans b d) (none b) (s b d l)

  -- an item of a range
  pub spans_widen : (n range : ℕ) (spans : List Span) (old new : Span) → phase_at t n ≡ Range range
      → range < length spans → old ≡ get_or spans range old → new.from ≡ min old.from n → new.to ≡ n + 1
      → AreSpans t n spans → AreSpans t (n + 1) (set spans range new)
  spans_widen n range spans old new is near at from to s b d l =
      let far : b < length spans = omega (arith, l, length-set spans range new) in
      dite (ℕ_discrete b range)
      (λ e. subst (λ c. IsSpanOf t (n + 1) (Range c) (get_or (set spans range new) c d)) (sym e)
      (subst (IsSpanOf t (n + 1) (Range range)) (sym (get_or-set_same spans range new d near))
      (wider n (Range range) old new from to
      (subst (IsSpanOf t n (Range range)) (sym at) (s range old near)))))
      (λ ne. subst (IsSpanOf t (n + 1) (Range b)) (sym (get_or-set_other spans range b new d ne))
      (more n (Range b) (get_or spans b d)
      (λ other. let same : Range range ≡ Range b = sym is ∙ other in ne (sym (cc same))) (s b d far)))
