-- A delivery, to an item or to the common end, keeps the rule.
use Rattle.std.proofs.Common.{◌≡◌, ◌≢◌, ℕ, zero, suc, ◌+◌, ◌<◌, inr, ⊎_elim, subst, refl, sym, ap, ◌∙◌, arith, List, [], ◌∷◌, ◌++◌, length, get_or, ◌-◌, length-append}
use Rattle.std.proofs.lemmas.List.{get_or_append_left, get_or-append_right}
use mathlib.Core.Logic.{dite}
use native.Mathlib.Decide.{ℕ_discrete}
use Rattle.ftl_cells.specs.shared.Count.{Counts}
use Rattle.ftl_cells.specs.shared.Work.{Meaning, cell_total, kind_at, item_total, next_total, next_at, target_of, solved_word, IsStepOfItem, IsNext, IsLawfulWork}
use Rattle.ftl_cells.specs.shared.State.{Place, live, Sends, released_after}
use Rattle.ftl_cells.specs.shared.Kept.{Stage, Looks, IsWorkingAt, HasEnded, HasItem, CellHolds, HasDelivered, Owes, IsUndone, AreReleased, IsKept}
use Rattle.ftl_cells.specs.declared.shared.place.HandPlace.TheVariants.{Idle, Sending}
use Rattle.ftl_cells.proofs.shared.Counting.{same_count, falls, some_left}
use Rattle.ftl_cells.proofs.shared.Moves.{Same, Puts, Turns, sends_has, works_has, has_one, sends_one, sends_or_works, looks_in_range, has_in_range, after_turn, before_turn, old, new, range_after, alone_after, half_same, delivered_same, owes_same, undone_same, released_same}

-- a list of released items, with one more whose counter was not 0 before
pub released_more : (m : Meaning) (s : Stage) (xs : List ℕ) (x : ℕ) → AreReleased m s xs → x < item_total m
    → s.counter x ≡ 0 → (p : ℕ) → IsNext m p x → ((k : ℕ) → k < length xs → get_or xs k 0 ≢ x)
    → AreReleased m s (xs ++ x ∷ [])
released_more m s xs x r known waits p next apart =
    let before : (k : ℕ) → k < length xs → get_or (xs ++ x ∷ []) k 0 ≡ get_or xs k 0 = λ k l. get_or_append_left xs
    (x ∷ []) 0 k l in
    let last : (k : ℕ) → k ≡ length xs → get_or (xs ++ x ∷ []) k 0 ≡ x = λ k e.
    get_or-append_right xs (x ∷ []) (length xs) k 0 refl (omega arith) ∙ ap (λ y. get_or (x ∷ []) y 0)
    (let z : k - length xs ≡ 0 = omega arith in z) in
    let cases : (P : ℕ → Type 0) (k : ℕ) → k < length (xs ++ x ∷ []) → (k < length xs → P (get_or xs k 0)) → P x → P
    (get_or (xs ++ x ∷ []) k 0) = λ P k l f g. dite (ℕ_discrete k (length xs))
    (λ e. subst P (sym (last k e)) g)
    (λ ne. let b : k < length xs = omega (arith, length-append xs (x ∷ [])) in subst P (sym (before k b)) (f b)) in
    record {
      known = λ k l. cases (λ y. y < item_total m) k l (r.known k) known;
      zero = λ k l. cases (λ y. s.counter y ≡ 0) k l (r.zero k) waits;
      preceded = λ k l. cases (λ y. (q : ℕ) × IsNext m q y) k l (r.preceded k) (p, next);
      once = λ k l a b e. dite (ℕ_discrete k (length xs))
          (λ ek. dite (ℕ_discrete l (length xs))
          (λ el. omega arith)
          (λ nl. let c : l < length xs = omega (arith, length-append xs (x ∷ [])) in absurd
          (apart l c (sym (before l c) ∙ sym e ∙ last k ek))))
          (λ nk. let d : k < length xs = omega (arith, length-append xs (x ∷ [])) in dite (ℕ_discrete l (length xs))
          (λ el. absurd (apart k d (sym (before k d) ∙ e ∙ last l el)))
          (λ nl. let c : l < length xs = omega (arith, length-append xs (x ∷ [])) in r.once k l d c
          (sym (before k d) ∙ e ∙ before l c)));
    }

module _ (m : Meaning) (law : IsLawfulWork m) (s : Stage) (h i n : ℕ) (sent : Sends (s.place h) i n)
    (k : IsKept m s) where
  pub sender_known : i < item_total m
  sender_known = has_in_range m (s.place h) i (sends_has (s.place h) i n sent) (k.in_range h)

  -- no other hand has the item
  only : (g x : ℕ) → g ≢ h → x ≡ i → HasItem (s.place g) x → ⊥
  only g x ne e w = ne (k.alone g h i (subst (HasItem (s.place g)) e w) (sends_has (s.place h) i n sent))

  -- the next item still waits for this one
  pub next_waits : n < next_total m i → Owes m s (next_at m i n) i
  next_waits b = record {
    next = record { known = sender_known; at = n; below = b; is = refl };
    waits = λ d. let a = d.sent h n n sent b refl in omega arith;
  }

  pub next_counter : n < next_total m i → (l : ℕ) × (s.counter (next_at m i n) ≡ suc l)
  next_counter b = some_left (Owes m s (next_at m i n)) i (law.next_is_later i n sender_known b) (next_waits b)
      (k.counters (next_at m i n) (law.next_in_range i n sender_known b))

  pub end_counter : (l : ℕ) × (s.end ≡ suc l)
  end_counter = some_left (IsUndone s) i sender_known (inr (h, n, sent)) k.end

module _ (m : Meaning) (law : IsLawfulWork m) (s t : Stage) (h i n left : ℕ) (p : Place) (sent : Sends p i n)
    (turn : Turns s t h p (live (Sending i (n + 1)))) (k : IsKept m s) where
  sent_here : Sends (s.place h) i n
  sent_here = subst (λ x. Sends x i n) (sym turn.was) sent

  known : i < item_total m
  known = sender_known m law s h i n sent_here k

  state_here : s.state i ≡ 2
  state_here = k.sending h i n sent_here

  -- of other items the hands send what they sent
  sends_old : (g x c : ℕ) → x ≢ i → Sends (t.place g) x c → Sends (s.place g) x c
  sends_old g x c ne w = ⊎_elim (λ a. absurd (ne (sym a.1.0))) (λ b. b.1)
      (after_turn s t h p (live (Sending i (n + 1))) turn (λ q. Sends q x c) g w)

  sends_new : (g x c : ℕ) → x ≢ i → Sends (s.place g) x c → Sends (t.place g) x c
  sends_new g x c ne w = ⊎_elim (λ a. absurd (ne (has_one p x i (sends_has p x c a.1) (sends_has p i n sent))))
      (λ b. b.1) (before_turn s t h p (live (Sending i (n + 1))) turn (λ q. Sends q x c) g w)

  -- of this item this hand alone sends
  count_old : (g x c : ℕ) → x ≡ i → Sends (s.place g) x c → c ≡ n
  count_old g x c e w = ⊎_elim (λ a. sends_one p x i c n a.1 sent)
      (λ b. absurd (only m law s h i n sent_here k g x b.0 e (sends_has (s.place g) x c w)))
      (before_turn s t h p (live (Sending i (n + 1))) turn (λ q. Sends q x c) g w)

  count_new : (g x c : ℕ) → x ≡ i → Sends (t.place g) x c → c ≡ n + 1
  count_new g x c e w = ⊎_elim (λ a. sym a.1.1)
      (λ b. absurd (only m law s h i n sent_here k g x b.0 e (sends_has (s.place g) x c b.1)))
      (after_turn s t h p (live (Sending i (n + 1))) turn (λ q. Sends q x c) g w)

  sends_there : Sends (t.place h) i (n + 1)
  sends_there = subst (λ x. Sends x i (n + 1)) (sym turn.is) (refl, refl)

  pub sends_keep : n < next_total m i → s.counter (next_at m i n) ≡ suc left → Same (cell_total m) s.cell t.cell
      → Same (item_total m) s.state t.state → Puts (item_total m) s.counter t.counter (next_at m i n) left
      → t.end ≡ s.end
      → t.released h ≡ released_after (s.released h) (next_at m i n) left
      → ((g : ℕ) → g ≢ h → t.released g ≡ s.released g) → IsKept m t
  sends_keep below was cells states counters end mine theirs =
      let next_known : next_at m i n < item_total m = law.next_in_range i n known below in
      let target_same : (x c : ℕ) → IsStepOfItem m x c → t.cell (target_of m x c) ≡ s.cell (target_of m x c) =
      λ x c st. cells (target_of m x c) (law.target_in_range x c st) in
      -- the counters that were 0 are 0
      let zero_same : (y : ℕ) → y < item_total m → s.counter y ≡ 0 → t.counter y ≡ 0 = λ y l z.
      counters.there y l (λ e. let a : s.counter y ≡ s.counter (next_at m i n) = ap s.counter e in omega (arith, was))
      ∙ z in
      -- to other items this one has delivered as before
      let delivered_old : (x q : ℕ) → q < item_total m → x ≢ next_at m i n → HasDelivered m t q x → HasDelivered m s q
      x = λ x q l ne d. dite (ℕ_discrete q i)
      (λ e. record {
        state = ap s.state e ∙ state_here;
        sent = λ g c at w b is. let f : c ≡ n = count_old g q c e w in
            let a : at < n + 1 = d.sent h (n + 1) at (subst (λ y. Sends (t.place h) y (n + 1)) (sym e) sends_there)
            b is in
            let apart : at ≢ n = λ z. ne (sym is ∙ ap (λ y. next_at m y at) e ∙ ap (next_at m i) z) in omega arith;
      })
      (λ no. delivered_same m t s q x (sym (states q l)) (λ g c. sends_new g q c no) d) in
      let delivered_new : (x q : ℕ) → q < item_total m → HasDelivered m s q x → HasDelivered m t q x = λ x q l d. dite
      (ℕ_discrete q i)
      (λ e. record {
        state = states q l ∙ d.state;
        sent = λ g c at w b is. let f : c ≡ n + 1 = count_new g q c e w in
            let a : at < n = d.sent h n at (subst (λ y. Sends (s.place h) y n) (sym e) sent_here) b is in omega arith;
      })
      (λ no. delivered_same m s t q x (states q l) (λ g c. sends_old g q c no) d) in
      let fallen : (l : ℕ) × (s.counter (next_at m i n) ≡ suc l) × Counts (Owes m t (next_at m i n))
      (next_at m i n) l =
      falls (Owes m s (next_at m i n)) (Owes m t (next_at m i n)) i (law.next_is_later i n known below)
      (next_waits m law s h i n sent_here k below)
      (λ o. o.waits (record {
        state = states i known ∙ state_here;
        sent = λ g c at w b is. let f : c ≡ n + 1 = count_new g i c refl w in
            let e : at ≡ n = law.next_once i at n known b below is in omega arith;
      }))
      (λ q b ne o. owes_same m s t q (next_at m i n)
      (delivered_same m t s q (next_at m i n) (sym (states q o.next.known)) (λ g c. sends_new g q c ne)) o)
      (λ q b ne o. owes_same m t s q (next_at m i n)
      (delivered_same m s t q (next_at m i n) (states q o.next.known) (λ g c. sends_old g q c ne)) o)
      (k.counters (next_at m i n) next_known) in
      let left_is : fallen.0 ≡ left = let a : s.counter (next_at m i n) ≡ suc fallen.0 = fallen.1 in omega
      (arith, was) in
      record {
        in_range = range_after s t h p (live (Sending i (n + 1))) turn m (known, omega arith) k.in_range;
        cells = λ c l. subst (λ y. CellHolds (kind_at m c) y (solved_word m c)) (sym (cells c l)) (k.cells c l);
        states = λ x l. let a : t.state x ≡ s.state x = states x l in let b = k.states x l in omega arith;
        free = λ x c st e. target_same x c st ∙ k.free x c st (sym (states x st.item) ∙ e);
        full = λ x c st e z. k.full x c st (sym (states x st.item) ∙ e) (sym (target_same x c st) ∙ z);
        claimed = λ x l e. let c = k.claimed x l (sym (states x l) ∙ e) in (
          c.0,
          c.1,
          new s t h p (live (Sending i (n + 1))) turn (λ q. IsWorkingAt q x c.1)
              (sends_or_works p i x n c.1 sent) c.0 c.2,
        );
        working = λ g x c w. let o = old s t h p (live (Sending i (n + 1))) turn (λ q. IsWorkingAt q x c) (λ z. z) g w in
            let l : x < item_total m = has_in_range m (s.place g) x (works_has (s.place g) x c o) (k.in_range g) in
            half_same m s t x c (states x l) (λ y b. target_same x y (record { item = l; step = b }))
            (k.working g x c o);
        sending = λ g x c w. ⊎_elim
            (λ a. subst (λ y. t.state y ≡ 2) a.1.0 (states i known ∙ state_here))
            (λ b. states x (has_in_range m (s.place g) x (sends_has (s.place g) x c b.1) (k.in_range g))
            ∙ k.sending g x c b.1)
            (after_turn s t h p (live (Sending i (n + 1))) turn (λ q. Sends q x c) g w);
        alone = alone_after s t h p (live (Sending i (n + 1))) turn
            (λ x w. subst (HasItem p) w (sends_has p i n sent)) k.alone;
        counters = λ x l. dite (ℕ_discrete x (next_at m i n))
            (λ e. subst (λ y. Counts (Owes m t y) y (t.counter y)) (sym e)
            (subst (Counts (Owes m t (next_at m i n)) (next_at m i n)) (left_is ∙ sym counters.here) fallen.2))
            (λ ne. subst (Counts (Owes m t x) x) (sym (counters.there x l ne)) (same_count (Owes m s x) (Owes m t x)
            (λ q b o. owes_same m s t q x (delivered_old x q o.next.known ne) o)
            (λ q b o. owes_same m t s q x (delivered_new x q o.next.known) o)
            (k.counters x l)));
        end = subst (Counts (IsUndone t) (item_total m)) (sym end) (same_count (IsUndone s) (IsUndone t)
            (λ q b u. dite (ℕ_discrete q i)
            (λ e. inr (h, n + 1, subst (λ y. Sends (t.place h) y (n + 1)) (sym e) sends_there))
            (λ ne. undone_same m s t q (states q b) (λ g c. sends_new g q c ne) u))
            (λ q b u. dite (ℕ_discrete q i)
            (λ e. inr (h, n, subst (λ y. Sends (s.place h) y n) (sym e) sent_here))
            (λ ne. undone_same m t s q (sym (states q b)) (λ g c. sends_old g q c ne) u))
            k.end);
        looked = λ g x w. let o : Looks (s.place g) x = old s t h p (live (Sending i (n + 1))) turn (λ q. Looks q x)
            (λ z. z) g w in
            zero_same x (looks_in_range m (s.place g) x o (k.in_range g)) (k.looked g x o);
        started = λ x l ne. zero_same x l (k.started x l (λ z. ne (states x l ∙ z)));
        ended = λ g w. end ∙ k.ended g (old s t h p (live (Sending i (n + 1))) turn HasEnded (λ z. z) g w);
        released = λ g. dite (ℕ_discrete g h)
            (λ e. subst (λ y. AreReleased m t (t.released y)) (sym e) (subst (AreReleased m t) (sym mine)
            (let kept : AreReleased m t (s.released h) = released_same m s t zero_same (s.released h)
            (k.released h) in
            elim left as (λ l. t.counter (next_at m i n) ≡ l → AreReleased m t
            (released_after (s.released h) (next_at m i n) l)) [
              | zero ↦ λ z. released_more m t (s.released h) (next_at m i n) kept next_known z i
                  (record { known = known; at = n; below = below; is = refl })
                  (λ c b e. let r = k.released h in let z : s.counter (get_or (s.released h) c 0) ≡ 0 = r.zero c b in
                  let a : s.counter (get_or (s.released h) c 0) ≡ s.counter (next_at m i n) = ap s.counter e in omega
                  (arith, was))
              | suc l ↦ λ z. kept
            ] counters.here)))
            (λ ne. subst (AreReleased m t) (sym (theirs g ne))
            (released_same m s t zero_same (s.released g) (k.released g)));
      }

module _ (m : Meaning) (law : IsLawfulWork m) (s t : Stage) (h i n left : ℕ) (p : Place) (sent : Sends p i n)
    (turn : Turns s t h p (live Idle)) (k : IsKept m s) where
  was_here : Sends (s.place h) i n
  was_here = subst (λ x. Sends x i n) (sym turn.was) sent

  item_known : i < item_total m
  item_known = sender_known m law s h i n was_here k

  filled : s.state i ≡ 2
  filled = k.sending h i n was_here

  sends_before : (g x c : ℕ) → Sends (t.place g) x c → Sends (s.place g) x c
  sends_before g x c = old s t h p (live Idle) turn (λ q. Sends q x c) (λ w. w) g

  sends_after : (g x c : ℕ) → x ≢ i → Sends (s.place g) x c → Sends (t.place g) x c
  sends_after g x c ne w = ⊎_elim (λ a. absurd (ne (has_one p x i (sends_has p x c a.1) (sends_has p i n sent))))
      (λ b. b.1) (before_turn s t h p (live Idle) turn (λ q. Sends q x c) g w)

  -- nobody sends the item after, and before this hand sends it to its end
  none_after : (g x c : ℕ) → x ≡ i → Sends (t.place g) x c → ⊥
  none_after g x c e w = ⊎_elim (λ a. a.1)
      (λ b. only m law s h i n was_here k g x b.0 e (sends_has (s.place g) x c b.1))
      (after_turn s t h p (live Idle) turn (λ q. Sends q x c) g w)

  count_before : (g x c : ℕ) → x ≡ i → Sends (s.place g) x c → c ≡ n
  count_before g x c e w = ⊎_elim (λ a. sends_one p x i c n a.1 sent)
      (λ b. absurd (only m law s h i n was_here k g x b.0 e (sends_has (s.place g) x c w)))
      (before_turn s t h p (live Idle) turn (λ q. Sends q x c) g w)

  pub finishes_keep : n ≡ next_total m i → s.end ≡ suc left → Same (cell_total m) s.cell t.cell
      → Same (item_total m) s.state t.state → Same (item_total m) s.counter t.counter → t.end ≡ left
      → ((g : ℕ) → t.released g ≡ s.released g) → IsKept m t
  finishes_keep done was cells states counters end released =
      let target_same : (x c : ℕ) → IsStepOfItem m x c → t.cell (target_of m x c) ≡ s.cell (target_of m x c) =
      λ x c st. cells (target_of m x c) (law.target_in_range x c st) in
      let delivered_old : (x q : ℕ) → q < item_total m → HasDelivered m t q x → HasDelivered m s q x = λ x q l d. dite
      (ℕ_discrete q i)
      (λ e. record {
        state = ap s.state e ∙ filled;
        sent = λ g c at w b is. let f : c ≡ n = count_before g q c e w in
            let a : at < next_total m i = subst (λ y. at < next_total m y) e b in omega (arith, done);
      })
      (λ no. delivered_same m t s q x (sym (states q l)) (λ g c. sends_after g q c no) d) in
      let delivered_new : (x q : ℕ) → q < item_total m → HasDelivered m s q x → HasDelivered m t q x = λ x q l d.
      delivered_same m s t q x (states q l) (λ g c. sends_before g q c) d in
      let fallen : (l : ℕ) × (s.end ≡ suc l) × Counts (IsUndone t) (item_total m) l =
      falls (IsUndone s) (IsUndone t) i item_known (inr (h, n, was_here))
      (λ u. ⊎_elim (λ a. a (states i item_known ∙ filled)) (λ b. none_after b.0 i b.1 refl b.2) u)
      (λ q b ne u. undone_same m s t q (states q b) (λ g c. sends_after g q c ne) u)
      (λ q b ne u. undone_same m t s q (sym (states q b)) (λ g c. sends_before g q c) u)
      k.end in
      let left_is : fallen.0 ≡ left = let a : s.end ≡ suc fallen.0 = fallen.1 in omega (arith, was) in
      record {
        in_range = range_after s t h p (live Idle) turn m tt k.in_range;
        cells = λ c l. subst (λ y. CellHolds (kind_at m c) y (solved_word m c)) (sym (cells c l)) (k.cells c l);
        states = λ x l. let a : t.state x ≡ s.state x = states x l in let b = k.states x l in omega arith;
        free = λ x c st e. target_same x c st ∙ k.free x c st (sym (states x st.item) ∙ e);
        full = λ x c st e z. k.full x c st (sym (states x st.item) ∙ e) (sym (target_same x c st) ∙ z);
        claimed = λ x l e. let c = k.claimed x l (sym (states x l) ∙ e) in
            (c.0, c.1, new s t h p (live Idle) turn (λ q. IsWorkingAt q x c.1) (sends_or_works p i x n c.1 sent) c.0 c.2);
        working = λ g x c w. let o = old s t h p (live Idle) turn (λ q. IsWorkingAt q x c) (λ z. z) g w in
            let l : x < item_total m = has_in_range m (s.place g) x (works_has (s.place g) x c o) (k.in_range g) in
            half_same m s t x c (states x l) (λ y b. target_same x y (record { item = l; step = b }))
            (k.working g x c o);
        sending = λ g x c w. let o = sends_before g x c w in
            states x (has_in_range m (s.place g) x (sends_has (s.place g) x c o) (k.in_range g)) ∙ k.sending g x c o;
        alone = alone_after s t h p (live Idle) turn (λ x w. absurd w) k.alone;
        counters = λ x l. subst (Counts (Owes m t x) x) (sym (counters x l)) (same_count (Owes m s x) (Owes m t x)
            (λ q b o. owes_same m s t q x (delivered_old x q o.next.known) o)
            (λ q b o. owes_same m t s q x (delivered_new x q o.next.known) o)
            (k.counters x l));
        end = subst (Counts (IsUndone t) (item_total m)) (left_is ∙ sym end) fallen.2;
        looked = λ g x w. let o : Looks (s.place g) x = old s t h p (live Idle) turn (λ q. Looks q x) (λ z. z) g w in
            counters x (looks_in_range m (s.place g) x o (k.in_range g)) ∙ k.looked g x o;
        started = λ x l ne. counters x l ∙ k.started x l (λ z. ne (states x l ∙ z));
        ended = λ g w. let o = old s t h p (live Idle) turn HasEnded (λ z. z) g w in
            let z : s.end ≡ 0 = k.ended g o in absurd (omega (arith, was));
        released = λ g. subst (AreReleased m t) (sym (released g))
            (released_same m s t (λ y l z. counters y l ∙ z) (s.released g) (k.released g));
      }
