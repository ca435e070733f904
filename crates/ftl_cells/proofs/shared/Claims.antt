-- A claim of a free item keeps the rule.
use Rattle.std.proofs.Common.{◌≡◌, ◌≢◌, ℕ, ◌<◌, inl, ⊎_elim, subst, refl, sym, ap, ◌∙◌, arith}
use mathlib.Core.Logic.{dite}
use native.Mathlib.Decide.{ℕ_discrete}
use Rattle.ftl_cells.specs.shared.Count.{Counts}
use Rattle.ftl_cells.specs.shared.Work.{Meaning, cell_total, kind_at, item_total, target_of, solved_word, IsStepOfItem, IsLawfulWork}
use Rattle.ftl_cells.specs.shared.State.{live, Sends}
use Rattle.ftl_cells.specs.shared.Kept.{Stage, Looks, IsWorkingAt, HasEnded, HasItem, CellHolds, IsHalfFilled, HasDelivered, Owes, IsUndone, AreReleased, IsKept}
use Rattle.ftl_cells.specs.declared.shared.place.HandPlace.TheVariants.{Looked, Working}
use Rattle.ftl_cells.proofs.shared.Counting.{same_count}
use Rattle.ftl_cells.proofs.shared.Moves.{Same, Puts, Turns, sends_has, works_has, looks_in_range, has_in_range, after_turn, old, new, range_after, half_same, delivered_same, owes_same, undone_same, released_same, held_state}

module _ (m : Meaning) (law : IsLawfulWork m) (s t : Stage) (h i : ℕ)
    (turn : Turns s t h (live (Looked i)) (live (Working i 0 0))) (k : IsKept m s) where
  looks : Looks (s.place h) i
  looks = subst (λ x. Looks x i) (sym turn.was) refl

  known : i < item_total m
  known = looks_in_range m (s.place h) i looks (k.in_range h)

  sends_old : (g x n : ℕ) → Sends (t.place g) x n → Sends (s.place g) x n
  sends_old g x n = old s t h (live (Looked i)) (live (Working i 0 0)) turn (λ p. Sends p x n) (λ w. w) g

  sends_new : (g x n : ℕ) → Sends (s.place g) x n → Sends (t.place g) x n
  sends_new g x n = new s t h (live (Looked i)) (live (Working i 0 0)) turn (λ p. Sends p x n) (λ w. w) g

  pub claims_keep : s.state i ≡ 0 → Same (cell_total m) s.cell t.cell → Puts (item_total m) s.state t.state i 1
      → Same (item_total m) s.counter t.counter → t.end ≡ s.end → ((g : ℕ) → t.released g ≡ s.released g) → IsKept m t
  claims_keep free cells states counters end released =
      let target_same : (x n : ℕ) → IsStepOfItem m x n → t.cell (target_of m x n) ≡ s.cell (target_of m x n) =
      λ x n st. cells (target_of m x n) (law.target_in_range x n st) in
      let half : IsHalfFilled m t i 0 = record {
        state = states.here;
        before = λ n a b. absurd (omega arith);
        rest = λ n a b. let st : IsStepOfItem m i n = record { item = known; step = b } in target_same i n st
            ∙ k.free i n st free;
      } in
      let alone_with : (g x : ℕ) → g ≢ h → HasItem (t.place g) x → HasItem (s.place g) x =
      λ g x ne. subst (λ p. HasItem p x)
      (turn.others g ne) in
      let delivered_old : (x p : ℕ) → p < item_total m → HasDelivered m t p x → HasDelivered m s p x = λ x p l d. dite
      (ℕ_discrete p i)
      (λ e. let a : t.state p ≡ 2 = d.state in let b : t.state i ≡ 1 = states.here in let c : t.state p ≡ t.state i =
      ap t.state e in absurd (omega arith))
      (λ ne. delivered_same m t s p x (sym (states.there p l ne)) (λ g n. sends_new g p n) d) in
      let delivered_new : (x p : ℕ) → p < item_total m → HasDelivered m s p x → HasDelivered m t p x = λ x p l d. dite
      (ℕ_discrete p i)
      (λ e. let a : s.state p ≡ 2 = d.state in let c : s.state p ≡ s.state i = ap s.state e in absurd
      (omega (arith, free)))
      (λ ne. delivered_same m s t p x (states.there p l ne) (λ g n. sends_old g p n) d) in
      record {
        in_range = range_after s t h (live (Looked i)) (live (Working i 0 0)) turn m
            (known, omega arith, omega arith) k.in_range;
        cells = λ c l. subst (λ n. CellHolds (kind_at m c) n (solved_word m c)) (sym (cells c l)) (k.cells c l);
        states = λ x l. dite (ℕ_discrete x i)
            (λ e. let a : t.state i ≡ 1 = states.here in let b : t.state x ≡ t.state i = ap t.state e in omega arith)
            (λ ne. let a : t.state x ≡ s.state x = states.there x l ne in let b = k.states x l in omega arith);
        free = λ x n st e. dite (ℕ_discrete x i)
            (λ eq. let a : t.state i ≡ 1 = states.here in let b : t.state x ≡ t.state i = ap t.state eq in absurd
            (omega arith))
            (λ ne. target_same x n st ∙ k.free x n st (sym (states.there x st.item ne) ∙ e));
        full = λ x n st e z. dite (ℕ_discrete x i)
            (λ eq. let a : t.state i ≡ 1 = states.here in let b : t.state x ≡ t.state i = ap t.state eq in absurd
            (omega arith))
            (λ ne. k.full x n st (sym (states.there x st.item ne) ∙ e) (sym (target_same x n st) ∙ z));
        claimed = λ x l e. dite (ℕ_discrete x i)
            (λ eq. (h, 0, subst (λ p. IsWorkingAt p x 0) (sym turn.is) (sym eq, refl)))
            (λ ne. let c = k.claimed x l (sym (states.there x l ne) ∙ e) in (
              c.0,
              c.1,
              new s t h (live (Looked i)) (live (Working i 0 0)) turn (λ p. IsWorkingAt p x c.1)
                  (λ w. w) c.0 c.2,
            ));
        working = λ g x n w. ⊎_elim
            (λ a. subst (λ y. IsHalfFilled m t y n) a.1.0 (subst (λ y. IsHalfFilled m t i y) a.1.1 half))
            (λ b. let o = k.working g x n b.1 in
            let l : x < item_total m = has_in_range m (s.place g) x (works_has (s.place g) x n b.1) (k.in_range g) in
            let ne : x ≢ i = λ e. let c : s.state x ≡ 1 = o.state in let d : s.state x ≡ s.state i = ap s.state e in
            omega (arith, free) in
            half_same m s t x n (states.there x l ne) (λ y c. target_same x y (record { item = l; step = c })) o)
            (after_turn s t h (live (Looked i)) (live (Working i 0 0)) turn (λ p. IsWorkingAt p x n) g w);
        sending = λ g x n w. let o = sends_old g x n w in let a : s.state x ≡ 2 = k.sending g x n o in
            let l : x < item_total m = has_in_range m (s.place g) x (sends_has (s.place g) x n o) (k.in_range g) in
            let ne : x ≢ i = λ e. let d : s.state x ≡ s.state i = ap s.state e in omega (arith, free) in
            states.there x l ne ∙ a;
        alone = λ a b x u v. ⊎_elim
            (λ c. ⊎_elim (λ d. c.0 ∙ sym d.0)
            (λ d. absurd (held_state m s k b x d.1 (ap s.state (sym c.1) ∙ free)))
            (after_turn s t h (live (Looked i)) (live (Working i 0 0)) turn (λ p. HasItem p x) b v))
            (λ c. ⊎_elim (λ d. absurd (held_state m s k a x c.1 (ap s.state (sym d.1) ∙ free)))
            (λ d. k.alone a b x c.1 d.1)
            (after_turn s t h (live (Looked i)) (live (Working i 0 0)) turn (λ p. HasItem p x) b v))
            (after_turn s t h (live (Looked i)) (live (Working i 0 0)) turn (λ p. HasItem p x) a u);
        counters = λ x l. subst (Counts (Owes m t x) x) (sym (counters x l)) (same_count (Owes m s x) (Owes m t x)
            (λ p b o. owes_same m s t p x (delivered_old x p o.next.known) o)
            (λ p b o. owes_same m t s p x (delivered_new x p o.next.known) o)
            (k.counters x l));
        end = subst (Counts (IsUndone t) (item_total m)) (sym end) (same_count (IsUndone s) (IsUndone t)
            (λ p b u. dite (ℕ_discrete p i)
            (λ e. inl
            (λ z. let a : t.state i ≡ 1 = states.here in let c : t.state p ≡ t.state i = ap t.state e in omega
            arith))
            (λ ne. undone_same m s t p (states.there p b ne) (λ g n. sends_new g p n) u))
            (λ p b u. dite (ℕ_discrete p i)
            (λ e. inl (λ z. let c : s.state p ≡ s.state i = ap s.state e in omega (arith, free)))
            (λ ne. undone_same m t s p (sym (states.there p b ne)) (λ g n. sends_old g p n) u))
            k.end);
        looked = λ g x w. let o : Looks (s.place g) x = old s t h (live (Looked i)) (live (Working i 0 0)) turn
            (λ p. Looks p x) (λ z. z) g w in
            counters x (looks_in_range m (s.place g) x o (k.in_range g)) ∙ k.looked g x o;
        started = λ x l ne. dite (ℕ_discrete x i)
            (λ e. counters x l ∙ k.looked h x (subst (λ y. Looks (s.place h) y) (sym e) looks))
            (λ no. counters x l ∙ k.started x l (λ z. ne (states.there x l no ∙ z)));
        ended = λ g w. end ∙ k.ended g
            (old s t h (live (Looked i)) (live (Working i 0 0)) turn HasEnded (λ z. z) g w);
        released = λ g. subst (AreReleased m t) (sym (released g))
            (released_same m s t (λ y l z. counters y l ∙ z) (s.released g) (k.released g));
      }
