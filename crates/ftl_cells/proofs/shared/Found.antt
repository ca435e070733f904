-- What the kept rule tells a hand.
use Rattle.std.proofs.Common.{◌≡◌, ◌≢◌, ℕ, ◌<◌, inl, inr, ⊎_elim, subst, refl, arith}
use mathlib.Core.Logic.{dite}
use native.Mathlib.Decide.{ℕ_discrete}
use Rattle.ftl_cells.specs.shared.Work.{Meaning, cell_total, kind_at, item_total, step_total, target_of, read_total, read_of, solved_word, IsStepOfItem, IsNext, IsOwn, IsHandedOn, IsLawfulWork}
use Rattle.ftl_cells.specs.shared.State.{Sends, last_word_of}
use Rattle.ftl_cells.specs.shared.Kept.{Stage, IsWorkingAt, CellHolds, IsHalfFilled, Owes, IsUndone, IsKept}
use Rattle.ftl_cells.specs.declared.shared.kind.CellKind.{CellKind}
use Rattle.ftl_cells.specs.declared.shared.kind.CellKind.TheVariants.{Given, Target, Later}
use Rattle.ftl_cells.proofs.shared.Counting.{none_left}
use Rattle.ftl_cells.proofs.shared.Moves.{works_has, has_in_range}

module _ (m : Meaning) (law : IsLawfulWork m) (s : Stage) (k : IsKept m s) where
  given_holds : (c : ℕ) → c < cell_total m → kind_at m c ≡ Given → s.cell c ≡ solved_word m c
  given_holds c l e = subst (λ q. CellHolds q (s.cell c) (solved_word m c)) e (k.cells c l)

  -- a target that is not empty holds the solution's word
  pub target_holds : (i j : ℕ) → IsStepOfItem m i j → s.cell (target_of m i j) ≢ 0
      → s.cell (target_of m i j) ≡ solved_word m (target_of m i j)
  target_holds i j st ne = ⊎_elim (λ z. absurd (ne z)) (λ e. e)
      (subst (λ q. CellHolds q (s.cell (target_of m i j)) (solved_word m (target_of m i j))) (law.target_kind i j st)
      (k.cells (target_of m i j) (law.target_in_range i j st)))

  -- each predecessor of an item that is not free is filled
  pub preds_filled : (i p : ℕ) → i < item_total m → s.state i ≢ 0 → IsNext m p i → s.state p ≡ 2
  preds_filled i p l ne next = dite (ℕ_discrete (s.state p) 2) (λ e. e)
      (λ no. absurd (none_left (Owes m s i) (k.counters i l) (k.started i l ne) p
      (subst (λ y. p < y) next.is (law.next_is_later p next.at next.known next.below))
      (record { next = next; waits = λ d. no d.state })))

  -- a cell that a hand reads holds the solution's word
  pub read_is : (h i j r : ℕ) → IsWorkingAt (s.place h) i j → j < step_total m i → r < read_total m i j
      → s.cell (read_of m i j r) ≡ solved_word m (read_of m i j r)
  read_is h i j r w b c =
      let l : i < item_total m = has_in_range m (s.place h) i (works_has (s.place h) i j w) (k.in_range h) in
      let st : IsStepOfItem m i j = record { item = l; step = b } in
      let half : IsHalfFilled m s i j = k.working h i j w in
      let P : ℕ → Type 0 = λ c. s.cell c ≡ solved_word m c in
      ⊎_elim (λ given. given_holds (read_of m i j r) (law.read_in_range i j r st c) given)
      (λ more. ⊎_elim
      (λ (own : IsOwn m i j (read_of m i j r)). let early : own.step < step_total m i = omega arith in
      let e : own.step < j = own.earlier in
      subst P own.is (target_holds i own.step (record { item = l; step = early }) (half.before own.step e early)))
      (λ (on : IsHandedOn m i (read_of m i j r)). let one : s.state i ≡ 1 = half.state in
      subst P on.is
      (target_holds on.item on.step on.known
      (k.full on.item on.step on.known (preds_filled i on.item l (λ z. omega arith) on.next))))
      more)
      (law.readable i j r st c)

  -- where the common end's counter is 0, each item is filled, and no hand has one
  pub all_filled : s.end ≡ 0 → (i : ℕ) → i < item_total m → s.state i ≡ 2
  all_filled z i l = dite (ℕ_discrete (s.state i) 2) (λ e. e)
      (λ ne. absurd (none_left (IsUndone s) k.end z i l (inl ne)))

  pub none_sends : s.end ≡ 0 → (h i n : ℕ) → i < item_total m → Sends (s.place h) i n → ⊥
  none_sends z h i n l w = none_left (IsUndone s) k.end z i l (inr (h, n, w))

  -- and each cell holds what it holds at the end
  pub last_holds : s.end ≡ 0 → (c : ℕ) → c < cell_total m → s.cell c ≡ last_word_of (kind_at m c) (solved_word m c)
  last_holds z c l =
      let by : (q : CellKind) → kind_at m c ≡ q → CellHolds q (s.cell c) (solved_word m c) → s.cell c ≡ last_word_of q
      (solved_word m c) = elim [
        | Given ↦ λ e h. h
        | Target ↦ λ e h. let t = law.each_target c l e in
            let st : IsStepOfItem m t.item t.step = t.known in
            subst (λ y. s.cell y ≡ solved_word m y) t.is
            (target_holds t.item t.step st (k.full t.item t.step st (all_filled z t.item st.item)))
        | Later ↦ λ e h. h
      ] in
      by (kind_at m c) refl (k.cells c l)
