-- Items of a phase that are filled in order.
use Rattle.std.proofs.Common.{◌≡◌, ◌≢◌, ◌↔◌, ℕ, ◌+◌, ◌<◌, ◌⊎◌, inl, inr, ⊎_elim, List, length, get_or, set, subst, refl, sym, ap, ◌∙◌, arith}
use Rattle.std.proofs.lemmas.List.{get_or-set_same, get_or-set_other, length-set}
use mathlib.Core.Logic.{dite}
use native.Mathlib.Decide.{ℕ_discrete}
use Rattle.std.specs.Prelude.{Option, Some}
use Rattle.ftl_model.specs.layout.Values.{Value, IsValue, word_of_value}
use Rattle.ftl_cells.specs.shared.Work.{Meaning, IsStepOfItem, IsOwn, IsHandedOn, cell_total, kind_at, step_total, target_of, read_total, read_of, solution_at, solved_word}
use Rattle.ftl_cells.specs.declared.shared.kind.CellKind.TheVariants.{Given, Target, Later}
use Rattle.ftl_steal.specs.Alone.{IsBefore}
use Rattle.ftl_steal.proofs.Filling.{before_next, before_item}
use Rattle.ftl_cells.specs.work_phases.Phases.{ComesBefore, phase_at}
use Rattle.ftl_cells.specs.declared.work_phases.phase.Phase.{Phase}
use Rattle.ftl_cells.specs.declared.work_phases.phase.Phases.{Phases}
use Rattle.ftl_lots.specs.filling.Filled.{HoldMade, Holds, IsFilledIn, IsMade}

-- the steps of an item that this one reads from are made
handed_made : (t : Phases) (x : Phase) (i j p k : ℕ) → p < i → phase_at t i ≡ x
    → (phase_at t p ≡ phase_at t i) ⊎ ComesBefore (phase_at t p) (phase_at t i) → IsMade t x i j p k
handed_made t x i j p k less phase or =
    ⊎_elim (λ same. inl (same ∙ phase, inl less))
    (λ (before : ComesBefore (phase_at t p) (phase_at t i)). inr (subst (ComesBefore (phase_at t p)) phase before)) or

-- each cell that a step reads holds the solution's word
pub read_holds : (m : Meaning) (t : Phases) (x : Phase) (words : List ℕ) (first i j r : ℕ)
    → IsFilledIn m t x words first i j → phase_at t i ≡ x → IsStepOfItem m i j → r < read_total m i j
    → Holds words first (read_of m i j r) (solved_word m (read_of m i j r))
read_holds m t x words first i j r f phase st b =
    let P : ℕ → Type 0 = λ c. Holds words first c (solved_word m c) in
    let law = f.lawful in
    let here : j < step_total m i = st.step in
    ⊎_elim (λ given. f.made.given (read_of m i j r) (law.read_in_range i j r st b) given)
    (λ more. ⊎_elim
    (λ (is_own : IsOwn m i j (read_of m i j r)). subst P is_own.is
    (f.made.filled i is_own.step (record { item = st.item; step = omega (arith, is_own.earlier, here) })
    (inl (phase, inr (refl, is_own.earlier)))))
    (λ (on : IsHandedOn m i (read_of m i j r)). subst P on.is
    (f.made.filled on.item on.step on.known
    (handed_made t x i j on.item on.step
    (subst (λ y. on.item < y) on.next.is (law.next_is_later on.item on.next.at on.next.known on.next.below))
    phase (f.taken.handing on.item i on.next))))
    more)
    (law.readable i j r st b)

-- so its word is that of the solution's value, which is what the word gives
pub read_gives : (m : Meaning) (t : Phases) (x : Phase) (words : List ℕ) (first i j r cell d : ℕ)
    (answer : Option Value) → IsFilledIn m t x words first i j → phase_at t i ≡ x → IsStepOfItem m i j
    → r < read_total m i j → cell ≡ read_of m i j r → cell ≡ first + d
    → ((v : Value) → IsValue v → get_or words d 0 ≡ word_of_value v → answer ≡ Some v)
    → answer ≡ Some (solution_at m cell)
read_gives m t x words first i j r cell d answer f phase st b at is only =
    let law = f.lawful in
    let near : cell < cell_total m = omega (arith, at, law.read_in_range i j r st b) in
    let inside : d < length words = omega (arith, at, is, (f.reads i j r st b phase).1) in
    let holds : Holds words first cell (solved_word m cell) =
    subst (λ c. Holds words first c (solved_word m c)) (sym at) (read_holds m t x words first i j r f phase st b) in
    only (solution_at m cell) (law.values cell near) (holds d is inside)

-- a word, set anew
set_same : (words : List ℕ) (first d n : ℕ) → d < length words → Holds (set words d n) first (first + d) n
set_same words first d n b e is l =
    let same : e ≡ d = omega (arith, is) in
    subst (λ y. get_or (set words d n) y 0 ≡ n) (sym same) (get_or-set_same words d n 0 b)

-- and all other cells hold what they did
set_other : (words : List ℕ) (first d n c w : ℕ) → c ≢ first + d → Holds words first c w
    → Holds (set words d n) first c w
set_other words first d n c w ne h e is l =
    get_or-set_other words d e n 0 (λ same. ne (is ∙ ap (λ y. first + y) same))
    ∙ h e is (omega (arith, l, length-set words d n))

-- the next step, once this one's target is filled
pub fills_on : (m : Meaning) (t : Phases) (x : Phase) (words : List ℕ) (first i j d n : ℕ)
    → IsFilledIn m t x words first i j → phase_at t i ≡ x → IsStepOfItem m i j → target_of m i j ≡ first + d
    → n ≡ solved_word m (target_of m i j) → IsFilledIn m t x (set words d n) first i (j + 1)
fills_on m t x words first i j d n f phase st at is =
    let law = f.lawful in
    let count = length-set words d n in
    let kind : kind_at m (target_of m i j) ≡ Target = law.target_kind i j st in
    let inside : d < length words = omega (arith, at, (f.targets i j st phase).1) in
    let new : Holds (set words d n) first (target_of m i j) (solved_word m (target_of m i j)) =
    subst (λ y. Holds (set words d n) first (target_of m i j) y) is
    (subst (λ c. Holds (set words d n) first c n) (sym at) (set_same words first d n inside)) in
    let old : (c w : ℕ) → c ≢ target_of m i j → Holds words first c w → Holds (set words d n) first c w =
    λ c w ne h. set_other words first d n c w (λ same. ne (same ∙ sym at)) h in record {
      lawful = law;
      taken = f.taken;
      targets = λ k l step same. let b = f.targets k l step same in (b.0, omega (arith, b.1, count));
      reads = λ k l r step near same. let b = f.reads k l r step near same in (b.0, omega (arith, b.1, count));
      made = record {
        given = λ c l k. old c (solved_word m c)
            (λ e. let same : Given ≡ Target = sym k ∙ ap (kind_at m) e ∙ kind in absurd (cc)) (f.made.given c l k);
        later = λ c l k. old c 0
            (λ e. let same : Later ≡ Target = sym k ∙ ap (kind_at m) e ∙ kind in absurd (cc)) (f.made.later c l k);
        filled = λ k l step b. dite (ℕ_discrete (target_of m k l) (target_of m i j))
            (λ e. subst (λ c. Holds (set words d n) first c (solved_word m c)) (sym e) new)
            (λ ne. old (target_of m k l) (solved_word m (target_of m k l)) ne
            (f.made.filled k l step (⊎_elim
            (λ (y : (phase_at t k ≡ x) × IsBefore k l i (j + 1)). ⊎_elim
            (λ (z : k < i). inl (y.0, inl z))
            (λ (z : (k ≡ i) × (l < j + 1)). dite (ℕ_discrete l j)
            (λ e. absurd (ne (λ q. target_of m (z.0 q) (e q))))
            (λ other. inl (y.0, inr (z.0, omega (arith, z.1))))) y.1)
            (λ y. inr y) b)));
        rest = λ k l step none.
            let other : target_of m k l ≢ target_of m i j = λ e.
            let one = law.target_once k l i j step st e in
            none (inl (subst (λ n. phase_at t n ≡ x) (sym one.0) phase, inr (one.0, omega (arith, one.1)))) in
            old (target_of m k l) 0 other (f.made.rest k l step (λ b. none (⊎_elim
            (λ (y : (phase_at t k ≡ x) × IsBefore k l i j). inl (y.0, before_next k l i j y.1))
            (λ y. inr y) b)));
      };
    }

-- the same words, where the same steps are made
pub made_same : (m : Meaning) (is_made are_made : (k l : ℕ) → Type 0) (words : List ℕ) (first : ℕ)
    → ((k l : ℕ) → IsStepOfItem m k l → are_made k l ↔ is_made k l) → HoldMade m is_made words first
    → HoldMade m are_made words first
made_same m is_made are_made words first each h = record {
  given = h.given;
  later = h.later;
  filled = λ k l st b. h.filled k l st ((each k l st).0 b);
  rest = λ k l st none. h.rest k l st (λ b. none ((each k l st).1 b));
}

-- what is made before a step of this item is made before the next item
made_item : (t : Phases) (x : Phase) (i j k l : ℕ) → IsMade t x i j k l → IsMade t x (i + 1) 0 k l
made_item t x i j k l b = ⊎_elim
    (λ (y : (phase_at t k ≡ x) × IsBefore k l i j). inl (y.0, before_item k l i j y.1)) (λ y. inr y) b

-- the next item, once each step of this one is made
pub goes_on : (m : Meaning) (t : Phases) (x : Phase) (words : List ℕ) (first i : ℕ)
    → IsFilledIn m t x words first i (step_total m i) → IsFilledIn m t x words first (i + 1) 0
goes_on m t x words first i f = record {
  lawful = f.lawful;
  taken = f.taken;
  targets = f.targets;
  reads = f.reads;
  made = made_same m (IsMade t x i (step_total m i)) (IsMade t x (i + 1) 0) words first
      (λ k l st. (
        (λ b. ⊎_elim
            (λ (y : (phase_at t k ≡ x) × IsBefore k l (i + 1) 0). inl (
              y.0,
              ⊎_elim
                  (λ (z : k < i + 1). dite (ℕ_discrete k i)
                  (λ e. inr (e, subst (λ q. l < step_total m q) e st.step)) (λ ne. inl (omega arith)))
                  (λ (z : (k ≡ i + 1) × (l < 0)). absurd (omega (arith, z.1))) y.1,
            ))
            (λ y. inr y) b),
        made_item t x i (step_total m i) k l,
      )) f.made;
}

-- an item of another phase is not this one's to fill
pub passes_by : (m : Meaning) (t : Phases) (x : Phase) (words : List ℕ) (first i : ℕ)
    → IsFilledIn m t x words first i 0 → phase_at t i ≢ x → IsFilledIn m t x words first (i + 1) 0
passes_by m t x words first i f other = record {
  lawful = f.lawful;
  taken = f.taken;
  targets = f.targets;
  reads = f.reads;
  made = made_same m (IsMade t x i 0) (IsMade t x (i + 1) 0) words first
      (λ k l st. (
        (λ b. ⊎_elim
            (λ (y : (phase_at t k ≡ x) × IsBefore k l (i + 1) 0). inl (
              y.0,
              ⊎_elim
                  (λ (z : k < i + 1). dite (ℕ_discrete k i)
                  (λ e. absurd (other (subst (λ q. phase_at t q ≡ x) e y.0))) (λ ne. inl (omega arith)))
                  (λ (z : (k ≡ i + 1) × (l < 0)). absurd (omega (arith, z.1))) y.1,
            ))
            (λ y. inr y) b),
        made_item t x i 0 k l,
      )) f.made;
}
