-- A store in a step's target keeps the rule.
use Rattle.std.proofs.Common.{◌≡◌, ◌≢◌, ℕ, ◌+◌, ◌<◌, inr, ⊎_elim, subst, refl, sym, ap, ◌∙◌, arith}
use mathlib.Core.Logic.{dite}
use native.Mathlib.Decide.{ℕ_discrete}
use Rattle.ftl_cells.specs.shared.Count.{Counts}
use Rattle.ftl_cells.specs.shared.Work.{Meaning, cell_total, kind_at, item_total, step_total, target_of, solution_at, solved_word, IsStepOfItem, IsLawfulWork}
use Rattle.ftl_cells.specs.shared.State.{live, Sends}
use Rattle.ftl_cells.specs.shared.Kept.{Stage, Looks, IsWorkingAt, HasEnded, HasItem, CellHolds, IsHalfFilled, Owes, IsUndone, AreReleased, IsKept}
use Rattle.ftl_cells.specs.declared.shared.place.HandPlace.TheVariants.{Working}
use Rattle.ftl_cells.proofs.shared.Counting.{same_count}
use Rattle.ftl_cells.proofs.shared.Words.{word_of_value_pos}
use Rattle.ftl_cells.proofs.shared.Moves.{Same, Puts, Turns, sends_has, works_has, looks_in_range, has_in_range, after_turn, before_turn, old, new, range_after, alone_after, half_same, delivered_same, owes_same, undone_same, released_same, step_of}

module _ (m : Meaning) (law : IsLawfulWork m) (s t : Stage) (h i j r : ℕ)
    (turn : Turns s t h (live (Working i j r)) (live (Working i (j + 1) 0))) (k : IsKept m s) where
  works : IsWorkingAt (s.place h) i j
  works = subst (λ x. IsWorkingAt x i j) (sym turn.was) (refl, refl)

  claimed : s.state i ≡ 1
  claimed = step_of m s k h i j works

  known : i < item_total m
  known = has_in_range m (s.place h) i (works_has (s.place h) i j works) (k.in_range h)

  -- only the hand that steps works on the item
  apart : (g x n : ℕ) → g ≢ h → IsWorkingAt (s.place g) x n → x ≢ i
  apart g x n ne w e = ne
      (k.alone g h i (subst (HasItem (s.place g)) e (works_has (s.place g) x n w)) (works_has (s.place h) i j works))

  sends_old : (g x n : ℕ) → Sends (t.place g) x n → Sends (s.place g) x n
  sends_old g x n = old s t h (live (Working i j r)) (live (Working i (j + 1) 0)) turn (λ p. Sends p x n) (λ w. w) g

  sends_new : (g x n : ℕ) → Sends (s.place g) x n → Sends (t.place g) x n
  sends_new g x n = new s t h (live (Working i j r)) (live (Working i (j + 1) 0)) turn (λ p. Sends p x n) (λ w. w) g

  -- the cell is empty before
  pub fill_finds_empty : j < step_total m i → s.cell (target_of m i j) ≡ 0
  fill_finds_empty b = let half = k.working h i j works in half.rest j (omega arith) b

  pub fills_keep : j < step_total m i
      → Puts (cell_total m) s.cell t.cell (target_of m i j) (solved_word m (target_of m i j))
      → Same (item_total m) s.state t.state → Same (item_total m) s.counter t.counter → t.end ≡ s.end
      → ((g : ℕ) → t.released g ≡ s.released g) → IsKept m t
  fills_keep below cells states counters end released =
      let here : IsStepOfItem m i j = record { item = known; step = below } in
      let target_same : (x n : ℕ) → IsStepOfItem m x n → target_of m x n ≢ target_of m i j → t.cell
      (target_of m x n) ≡ s.cell (target_of m x n) =
      λ x n st ne. cells.there (target_of m x n) (law.target_in_range x n st) ne in
      let not_empty : t.cell (target_of m i j) ≢ 0 = λ z. word_of_value_pos (solution_at m (target_of m i j))
      (law.values (target_of m i j) (law.target_in_range i j here)) (sym cells.here ∙ z) in
      let half : IsHalfFilled m s i j = k.working h i j works in
      let more : IsHalfFilled m t i (j + 1) = record {
        state = states i known ∙ claimed;
        before = λ n a b. dite (ℕ_discrete n j)
            (λ e. subst (λ y. t.cell (target_of m i y) ≢ 0) (sym e) not_empty)
            (λ ne z. let st : IsStepOfItem m i n = record { item = known; step = b } in
            half.before n (omega arith) b
            (sym (target_same i n st (λ e. ne (law.target_once i n i j st here e).1)) ∙ z));
        rest = λ n a b. let st : IsStepOfItem m i n = record { item = known; step = b } in
            target_same i n st (λ e. let q : n ≡ j = (law.target_once i n i j st here e).1 in omega arith)
            ∙ half.rest n (omega arith) b;
      } in
      record {
        in_range = range_after s t h (live (Working i j r)) (live (Working i (j + 1) 0)) turn m
            (known, omega arith, omega arith) k.in_range;
        cells = λ c l. dite (ℕ_discrete c (target_of m i j))
            (λ e. subst (λ y. CellHolds (kind_at m y) (t.cell y) (solved_word m y)) (sym e)
            (subst (λ q. CellHolds q (t.cell (target_of m i j)) (solved_word m (target_of m i j)))
            (sym (law.target_kind i j here)) (inr cells.here)))
            (λ ne. subst (λ n. CellHolds (kind_at m c) n (solved_word m c)) (sym (cells.there c l ne)) (k.cells c l));
        states = λ x l. let a : t.state x ≡ s.state x = states x l in let b = k.states x l in omega arith;
        free = λ x n st e. let z : s.state x ≡ 0 = sym (states x st.item) ∙ e in
            let ne : x ≢ i = λ eq. let d : s.state x ≡ s.state i = ap s.state eq in omega (arith, claimed) in
            target_same x n st (λ eq. ne (law.target_once x n i j st here eq).0) ∙ k.free x n st z;
        full = λ x n st e z. dite (ℕ_discrete (target_of m x n) (target_of m i j))
            (λ eq. not_empty (ap t.cell (sym eq) ∙ z))
            (λ ne. k.full x n st (sym (states x st.item) ∙ e) (sym (target_same x n st ne) ∙ z));
        claimed = λ x l e. dite (ℕ_discrete x i)
            (λ eq. (h, j + 1, subst (λ p. IsWorkingAt p x (j + 1)) (sym turn.is) (sym eq, refl)))
            (λ ne. let c = k.claimed x l (sym (states x l) ∙ e) in (
              c.0,
              c.1,
              ⊎_elim (λ a. absurd (ne (sym a.1.0))) (λ b. b.1)
                  (before_turn s t h (live (Working i j r)) (live (Working i (j + 1) 0)) turn
                  (λ p. IsWorkingAt p x c.1) c.0 c.2),
            ));
        working = λ g x n w. ⊎_elim
            (λ a. subst (λ y. IsHalfFilled m t y n) a.1.0 (subst (λ y. IsHalfFilled m t i y) a.1.1 more))
            (λ b. let l : x < item_total m = has_in_range m (s.place g) x (works_has (s.place g) x n b.1)
            (k.in_range g) in
            half_same m s t x n (states x l)
            (λ y c. let st : IsStepOfItem m x y = record { item = l; step = c } in target_same x y st
            (λ eq. apart g x n b.0 b.1 (law.target_once x y i j st here eq).0))
            (k.working g x n b.1))
            (after_turn s t h (live (Working i j r)) (live (Working i (j + 1) 0)) turn (λ p. IsWorkingAt p x n) g w);
        sending = λ g x n w. let o = sends_old g x n w in
            states x (has_in_range m (s.place g) x (sends_has (s.place g) x n o) (k.in_range g)) ∙ k.sending g x n o;
        alone = alone_after s t h (live (Working i j r)) (live (Working i (j + 1) 0)) turn (λ x w. w) k.alone;
        counters = λ x l. subst (Counts (Owes m t x) x) (sym (counters x l)) (same_count (Owes m s x) (Owes m t x)
            (λ p b o. owes_same m s t p x
            (delivered_same m t s p x (sym (states p o.next.known)) (λ g n. sends_new g p n)) o)
            (λ p b o. owes_same m t s p x
            (delivered_same m s t p x (states p o.next.known) (λ g n. sends_old g p n)) o)
            (k.counters x l));
        end = subst (Counts (IsUndone t) (item_total m)) (sym end) (same_count (IsUndone s) (IsUndone t)
            (λ p b u. undone_same m s t p (states p b) (λ g n. sends_new g p n) u)
            (λ p b u. undone_same m t s p (sym (states p b)) (λ g n. sends_old g p n) u)
            k.end);
        looked = λ g x w. let o : Looks (s.place g) x = old s t h (live (Working i j r))
            (live (Working i (j + 1) 0)) turn (λ p. Looks p x) (λ z. z) g w in
            counters x (looks_in_range m (s.place g) x o (k.in_range g)) ∙ k.looked g x o;
        started = λ x l ne. counters x l ∙ k.started x l (λ z. ne (states x l ∙ z));
        ended = λ g w. end ∙ k.ended g
            (old s t h (live (Working i j r)) (live (Working i (j + 1) 0)) turn HasEnded (λ z. z) g w);
        released = λ g. subst (AreReleased m t) (sym (released g))
            (released_same m s t (λ y l z. counters y l ∙ z) (s.released g) (k.released g));
      }
