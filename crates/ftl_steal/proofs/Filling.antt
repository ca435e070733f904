-- Items that are filled in order end with the solution.
use Rattle.std.proofs.Common.{◌≡◌, ◌≢◌, ℕ, ◌+◌, ◌<◌, ◌≤◌, inl, inr, ⊎_elim, List, length, get_or, set, subst, refl, sym, ap, ◌∙◌, lt_of_not-le, arith}
use Rattle.std.proofs.Math.ListN.{get_or-eq_default}
use Rattle.std.proofs.lemmas.List.{get_or-set_same, get_or-set_other, length-set}
use Rattle.std.proofs.lemmas.Grind.{get_or_default_zero}
use Rattle.std.specs.Prelude.{Option, Some}
use Rattle.ftl_model.specs.layout.Values.{Value, IsValue, word_of_value}
use mathlib.Core.Logic.{dite}
use native.Mathlib.Decide.{ℕ_discrete}
use Rattle.ftl_cells.specs.shared.Work.{Meaning, ItemMeaning, no_item, IsLawfulWork, IsStepOfItem, IsOwn, IsHandedOn, cell_total, kind_at, item_total, step_total, target_of, read_total, read_of, solution_at, solved_word}
use Rattle.ftl_cells.specs.shared.State.{AreFirst, AreLast, first_word_of, last_word_of}
use Rattle.ftl_cells.specs.declared.shared.kind.CellKind.{CellKind}
use Rattle.ftl_cells.specs.declared.shared.kind.CellKind.TheVariants.{Given, Target, Later}
use Rattle.ftl_steal.specs.Alone.{IsBefore, IsFilledTo}

-- an item that has a step is one of the work's
pub has_step : (m : Meaning) (i j : ℕ) → j < step_total m i → IsStepOfItem m i j
unfolding item_total step_total
has_step m i j b = record {
  item = lt_of_not-le (λ (over : length m.items ≤ i).
      let none : get_or m.items i no_item ≡ no_item = get_or-eq_default m.items no_item over in
      let b' : j < length (get_or m.items i no_item).steps = b in
      let e : length (get_or m.items i no_item).steps ≡ 0 = ap (λ (x : ItemMeaning). length x.steps) none in
      absurd (omega arith));
  step = b;
}

-- a step before this one is before the next one too
pub before_next : (k l i j : ℕ) → IsBefore k l i j → IsBefore k l i (j + 1)
before_next k l i j b = ⊎_elim (λ (x : k < i). inl x)
    (λ (x : (k ≡ i) × (l < j)). inr (x.0, omega (arith, x.1))) b

-- a step of an item is before each step of the next one
pub before_item : (k l i j : ℕ) → IsBefore k l i j → IsBefore k l (i + 1) 0
before_item k l i j b = inl (⊎_elim (λ (x : k < i). omega (arith, x)) (λ (x : (k ≡ i) × (l < j)). omega (arith, x.0)) b)

-- before the first step
pub begins : (m : Meaning) (words : List ℕ) → IsLawfulWork m → AreFirst m words → IsFilledTo m words 0 0
begins m words law first = record {
  lawful = law;
  count = first.count;
  given = λ c l kind. first.each c l ∙ ap (λ q. first_word_of q (solved_word m c)) kind;
  later = λ c l kind. first.each c l ∙ ap (λ q. first_word_of q (solved_word m c)) kind;
  filled = λ k l st b. ⊎_elim (λ (x : k < 0). absurd (omega arith))
      (λ (x : (k ≡ 0) × (l < 0)). absurd (omega (arith, x.1))) b;
  rest = λ k l st _. let c = target_of m k l in
      first.each c (law.target_in_range k l st) ∙ ap (λ q. first_word_of q (solved_word m c)) (law.target_kind k l st);
}

-- each cell that a step reads holds the solution's word
pub read_is : (m : Meaning) (words : List ℕ) (i j r : ℕ) → IsFilledTo m words i j → IsStepOfItem m i j
    → r < read_total m i j → get_or words (read_of m i j r) 0 ≡ solved_word m (read_of m i j r)
read_is m words i j r f st b =
    let P : ℕ → Type 0 = λ c. get_or words c 0 ≡ solved_word m c in
    let law = f.lawful in
    let here : j < step_total m i = st.step in
    ⊎_elim (λ given. f.given (read_of m i j r) (law.read_in_range i j r st b) given)
    (λ more. ⊎_elim
    (λ (own : IsOwn m i j (read_of m i j r)). subst P own.is
    (f.filled i own.step (record { item = st.item; step = omega (arith, own.earlier, here) })
    (inr (refl, own.earlier))))
    (λ (on : IsHandedOn m i (read_of m i j r)). subst P on.is
    (f.filled on.item on.step on.known
    (inl (subst (λ y. on.item < y) on.next.is (law.next_is_later on.item on.next.at on.next.known on.next.below)))))
    more)
    (law.readable i j r st b)

-- so its word is that of the solution's value, which is what the word gives
pub read_gives : (m : Meaning) (words : List ℕ) (i j r cell word : ℕ) (answer : Option Value) → IsFilledTo m words i j
    → IsStepOfItem m i j → r < read_total m i j → cell ≡ read_of m i j r → word ≡ get_or words cell word
    → ((v : Value) → IsValue v → word ≡ word_of_value v → answer ≡ Some v) → answer ≡ Some (solution_at m cell)
read_gives m words i j r cell word answer f st b at found only =
    let law = f.lawful in
    let near : cell < cell_total m = omega (arith, at, law.read_in_range i j r st b) in
    let zero : get_or words cell word ≡ get_or words cell 0 =
    get_or_default_zero words cell word (omega (arith, near, f.count)) in
    let is : get_or words cell 0 ≡ solved_word m cell =
    subst (λ c. get_or words c 0 ≡ solved_word m c) (sym at) (read_is m words i j r f st b) in
    only (solution_at m cell) (law.values cell near) (found ∙ zero ∙ is)

-- the next step, once this one's target is filled
pub fills_on : (m : Meaning) (words : List ℕ) (i j n : ℕ) → IsFilledTo m words i j → IsStepOfItem m i j
    → n ≡ solved_word m (target_of m i j) → IsFilledTo m (set words (target_of m i j) n) i (j + 1)
fills_on m words i j n f st is =
    let law = f.lawful in
    let at : ℕ = target_of m i j in
    let kind : kind_at m at ≡ Target = law.target_kind i j st in
    let new : get_or (set words at n) at 0 ≡ solved_word m at =
    get_or-set_same words at n 0 (omega (arith, law.target_in_range i j st, f.count)) ∙ is in
    let old : (c : ℕ) → c ≢ at → get_or (set words at n) c 0 ≡ get_or words c 0 = λ c ne.
    get_or-set_other words at c n 0 ne in record {
      lawful = law;
      count = length-set words at n ∙ f.count;
      given = λ c l k. old c (λ e. let same : Given ≡ Target = sym k ∙ ap (kind_at m) e ∙ kind in absurd (cc))
          ∙ f.given c l k;
      later = λ c l k. old c (λ e. let same : Later ≡ Target = sym k ∙ ap (kind_at m) e ∙ kind in absurd (cc))
          ∙ f.later c l k;
      filled = λ k l step b. dite (ℕ_discrete (target_of m k l) at)
          (λ e. subst (λ c. get_or (set words at n) c 0 ≡ solved_word m c) (sym e) new)
          (λ ne. old (target_of m k l) ne ∙ f.filled k l step (⊎_elim (λ (x : k < i). inl x)
          (λ (x : (k ≡ i) × (l < j + 1)). dite (ℕ_discrete l j)
          (λ e. absurd (ne (λ y. target_of m (x.0 y) (e y))))
          (λ other. inr (x.0, omega (arith, x.1)))) b));
      rest = λ k l step none.
          let other : target_of m k l ≢ at = λ e.
          let one = law.target_once k l i j step st e in
          none (inr (one.0, omega (arith, one.1))) in
          old (target_of m k l) other ∙ f.rest k l step (λ b. none (before_next k l i j b));
    }

-- the next item, once each step of this one is made
pub goes_on : (m : Meaning) (words : List ℕ) (i : ℕ) → IsFilledTo m words i (step_total m i)
    → IsFilledTo m words (i + 1) 0
goes_on m words i f = record {
  lawful = f.lawful;
  count = f.count;
  given = f.given;
  later = f.later;
  filled = λ k l st b. f.filled k l st (⊎_elim
      (λ (x : k < i + 1). dite (ℕ_discrete k i)
      (λ e. inr (e, subst (λ y. l < step_total m y) e st.step)) (λ ne. inl (omega arith)))
      (λ (x : (k ≡ i + 1) × (l < 0)). absurd (omega (arith, x.1))) b);
  rest = λ k l st none. f.rest k l st (λ b. none (before_item k l i (step_total m i) b));
}

-- after the last item
pub ends : (m : Meaning) (words : List ℕ) → IsFilledTo m words (item_total m) 0 → AreLast m words
ends m words f = record {
  count = f.count;
  each = λ c l.
      let by : (q : CellKind) → kind_at m c ≡ q → get_or words c 0 ≡ last_word_of q (solved_word m c) = elim [
        | Given ↦ λ e. f.given c l e
        | Target ↦ λ e. let law = f.lawful in let t = law.each_target c l e in
            let st : IsStepOfItem m t.item t.step = t.known in
            subst (λ y. get_or words y 0 ≡ solved_word m y) t.is (f.filled t.item t.step st (inl st.item))
        | Later ↦ λ e. f.later c l e
      ] in
      by (kind_at m c) refl;
}
