-- The mark of a filled item keeps the rule.
use Rattle.std.proofs.Common.{◌≡◌, ◌≢◌, ℕ, ◌<◌, inl, inr, ⊎_elim, subst, refl, sym, ap, ◌∙◌, arith}
use mathlib.Core.Logic.{dite}
use native.Mathlib.Decide.{ℕ_discrete}
use Rattle.ftl_cells.specs.shared.Count.{Counts}
use Rattle.ftl_cells.specs.shared.Work.{Meaning, cell_total, kind_at, item_total, step_total, target_of, solved_word, IsStepOfItem, IsNext, IsLawfulWork}
use Rattle.ftl_cells.specs.shared.State.{live, Sends}
use Rattle.ftl_cells.specs.shared.Kept.{Stage, Looks, IsWorkingAt, HasEnded, HasItem, CellHolds, IsHalfFilled, HasDelivered, Owes, IsUndone, AreReleased, IsKept}
use Rattle.ftl_cells.specs.declared.shared.place.HandPlace.TheVariants.{Working, Filled}
use Rattle.ftl_cells.proofs.shared.Counting.{same_count}
use Rattle.ftl_cells.proofs.shared.Moves.{Same, Puts, Turns, sends_has, works_has, looks_in_range, has_in_range, after_turn, before_turn, old, new, range_after, alone_after, half_same, delivered_same, owes_same, undone_same, released_same, step_of}

module _ (m : Meaning) (law : IsLawfulWork m) (s t : Stage) (h i j r : ℕ)
    (turn : Turns s t h (live (Working i j r)) (live (Filled i))) (k : IsKept m s) where
  works : IsWorkingAt (s.place h) i j
  works = subst (λ x. IsWorkingAt x i j) (sym turn.was) (refl, refl)

  -- the item is claimed before
  pub mark_finds_claimed : s.state i ≡ 1
  mark_finds_claimed = step_of m s k h i j works

  known : i < item_total m
  known = has_in_range m (s.place h) i (works_has (s.place h) i j works) (k.in_range h)

  -- of other items the hands send what they sent
  sends_old : (g x n : ℕ) → x ≢ i → Sends (t.place g) x n → Sends (s.place g) x n
  sends_old g x n ne w = ⊎_elim (λ a. absurd (ne (sym a.1.0))) (λ b. b.1)
      (after_turn s t h (live (Working i j r)) (live (Filled i)) turn (λ p. Sends p x n) g w)

  sends_new : (g x n : ℕ) → Sends (s.place g) x n → Sends (t.place g) x n
  sends_new g x n = new s t h (live (Working i j r)) (live (Filled i)) turn (λ p. Sends p x n) (λ w. w) g

  sends_here : Sends (t.place h) i 0
  sends_here = subst (λ x. Sends x i 0) (sym turn.is) (refl, refl)

  pub marks_keep : j ≡ step_total m i → Same (cell_total m) s.cell t.cell → Puts (item_total m) s.state t.state i 2
      → Same (item_total m) s.counter t.counter → t.end ≡ s.end → ((g : ℕ) → t.released g ≡ s.released g) → IsKept m t
  marks_keep done cells states counters end released =
      let claimed : s.state i ≡ 1 = mark_finds_claimed in
      let target_same : (x n : ℕ) → IsStepOfItem m x n → t.cell (target_of m x n) ≡ s.cell (target_of m x n) =
      λ x n st. cells (target_of m x n) (law.target_in_range x n st) in
      let half : IsHalfFilled m s i j = k.working h i j works in
      -- no item has taken this one's delivery, before or after
      let undelivered : (x : ℕ) → IsNext m i x → HasDelivered m t i x → ⊥ = λ x next d.
      let a = d.sent h 0 next.at sends_here next.below next.is in omega arith in
      let unmarked : (x : ℕ) → HasDelivered m s i x → ⊥ = λ x d. let a : s.state i ≡ 2 = d.state in omega
      (arith, claimed) in
      record {
        in_range = range_after s t h (live (Working i j r)) (live (Filled i)) turn m known k.in_range;
        cells = λ c l. subst (λ n. CellHolds (kind_at m c) n (solved_word m c)) (sym (cells c l)) (k.cells c l);
        states = λ x l. dite (ℕ_discrete x i)
            (λ e. let a : t.state i ≡ 2 = states.here in let b : t.state x ≡ t.state i = ap t.state e in omega arith)
            (λ ne. let a : t.state x ≡ s.state x = states.there x l ne in let b = k.states x l in omega arith);
        free = λ x n st e. dite (ℕ_discrete x i)
            (λ eq. let a : t.state i ≡ 2 = states.here in let b : t.state x ≡ t.state i = ap t.state eq in absurd
            (omega arith))
            (λ ne. target_same x n st ∙ k.free x n st (sym (states.there x st.item ne) ∙ e));
        full = λ x n st e z. dite (ℕ_discrete x i)
            (λ eq. let b : n < step_total m i = subst (λ y. n < step_total m y) eq st.step in
            half.before n (omega (arith, done)) b
            (subst (λ y. s.cell (target_of m y n) ≡ 0) eq (sym (target_same x n st) ∙ z)))
            (λ ne. k.full x n st (sym (states.there x st.item ne) ∙ e) (sym (target_same x n st) ∙ z));
        claimed = λ x l e. dite (ℕ_discrete x i)
            (λ eq. let a : t.state i ≡ 2 = states.here in let b : t.state x ≡ t.state i = ap t.state eq in absurd
            (omega arith))
            (λ ne. let c = k.claimed x l (sym (states.there x l ne) ∙ e) in (
              c.0,
              c.1,
              ⊎_elim (λ a. absurd (ne (sym a.1.0))) (λ b. b.1)
                  (before_turn s t h (live (Working i j r)) (live (Filled i)) turn (λ p. IsWorkingAt p x c.1) c.0 c.2),
            ));
        working = λ g x n w. ⊎_elim (λ a. absurd a.1)
            (λ b. let l : x < item_total m = has_in_range m (s.place g) x (works_has (s.place g) x n b.1)
            (k.in_range g) in
            let ne : x ≢ i = λ e. b.0
            (k.alone g h i (subst (HasItem (s.place g)) e (works_has (s.place g) x n b.1))
            (works_has (s.place h) i j works)) in
            half_same m s t x n (states.there x l ne) (λ y c. target_same x y (record { item = l; step = c }))
            (k.working g x n b.1))
            (after_turn s t h (live (Working i j r)) (live (Filled i)) turn (λ p. IsWorkingAt p x n) g w);
        sending = λ g x n w. dite (ℕ_discrete x i)
            (λ e. ap t.state e ∙ states.here)
            (λ ne. let o = sends_old g x n ne w in
            states.there x (has_in_range m (s.place g) x (sends_has (s.place g) x n o) (k.in_range g)) ne
            ∙ k.sending g x n o);
        alone = alone_after s t h (live (Working i j r)) (live (Filled i)) turn (λ x w. w) k.alone;
        counters = λ x l. subst (Counts (Owes m t x) x) (sym (counters x l)) (same_count (Owes m s x) (Owes m t x)
            (λ p b o. dite (ℕ_discrete p i)
            (λ e. record {
              next = o.next;
              waits = λ d. undelivered x (subst (λ y. IsNext m y x) e o.next)
                  (subst (λ y. HasDelivered m t y x) e d);
            })
            (λ ne. owes_same m s t p x
            (delivered_same m t s p x (sym (states.there p o.next.known ne)) (λ g n. sends_new g p n)) o))
            (λ p b o. dite (ℕ_discrete p i)
            (λ e. record { next = o.next; waits = λ d. unmarked x (subst (λ y. HasDelivered m s y x) e d) })
            (λ ne. owes_same m t s p x
            (delivered_same m s t p x (states.there p o.next.known ne) (λ g n. sends_old g p n ne)) o))
            (k.counters x l));
        end = subst (Counts (IsUndone t) (item_total m)) (sym end) (same_count (IsUndone s) (IsUndone t)
            (λ p b u. dite (ℕ_discrete p i)
            (λ e. inr (h, 0, subst (λ y. Sends (t.place h) y 0) (sym e) sends_here))
            (λ ne. undone_same m s t p (states.there p b ne) (λ g n. sends_new g p n) u))
            (λ p b u. dite (ℕ_discrete p i)
            (λ e. inl (λ z. let c : s.state p ≡ s.state i = ap s.state e in omega (arith, claimed)))
            (λ ne. undone_same m t s p (sym (states.there p b ne)) (λ g n. sends_old g p n ne) u))
            k.end);
        looked = λ g x w. let o : Looks (s.place g) x = old s t h (live (Working i j r)) (live (Filled i)) turn
            (λ p. Looks p x) (λ z. z) g w in
            counters x (looks_in_range m (s.place g) x o (k.in_range g)) ∙ k.looked g x o;
        started = λ x l ne. dite (ℕ_discrete x i)
            (λ e. counters x l ∙ k.started x l
            (λ z. let c : s.state x ≡ s.state i = ap s.state e in omega (arith, claimed)))
            (λ no. counters x l ∙ k.started x l (λ z. ne (states.there x l no ∙ z)));
        ended = λ g w. end ∙ k.ended g
            (old s t h (live (Working i j r)) (live (Filled i)) turn HasEnded (λ z. z) g w);
        released = λ g. subst (AreReleased m t) (sym (released g))
            (released_same m s t (λ y l z. counters y l ∙ z) (s.released g) (k.released g));
      }
