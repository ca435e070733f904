-- Steps that change no word keep the rule.
use Rattle.std.proofs.Common.{◌≡◌, ℕ, subst, refl, sym, List}
use Rattle.ftl_cells.specs.shared.Work.{Meaning}
use Rattle.ftl_cells.specs.shared.State.{Place, Sends}
use Rattle.ftl_cells.specs.shared.Kept.{Stage, Looks, IsWorkingAt, HasEnded, HasItem, IsInRange, Owes, IsUndone}
use Rattle.ftl_cells.specs.shared.Kept.{AreReleased, IsKept}
use Rattle.ftl_cells.proofs.shared.Counting.{same_count}
use Rattle.ftl_cells.proofs.shared.Moves.{half_same, delivered_same, owes_same, undone_same, released_same}

-- two places that have one item at one step, or none
pub record Alike (p q : Place) : Type 0 where
  pub works : (i j : ℕ) → IsWorkingAt q i j → IsWorkingAt p i j
  pub works_back : (i j : ℕ) → IsWorkingAt p i j → IsWorkingAt q i j
  pub sends : (i k : ℕ) → Sends q i k → Sends p i k
  pub sends_back : (i k : ℕ) → Sends p i k → Sends q i k
  pub has : (i : ℕ) → HasItem q i → HasItem p i

pub alike_self : (p q : Place) → q ≡ p → Alike p q
alike_self p q e = record {
  works = λ i j. subst (λ x. IsWorkingAt x i j) e;
  works_back = λ i j. subst (λ x. IsWorkingAt x i j) (sym e);
  sends = λ i j. subst (λ x. Sends x i j) e;
  sends_back = λ i j. subst (λ x. Sends x i j) (sym e);
  has = λ i. subst (λ x. HasItem x i) e;
}

module _ (m : Meaning) (s : Stage) (place : ℕ → Place) (released : ℕ → List ℕ) where
  abbrev pub moved : Stage
  moved = record
      { cell = s.cell; state = s.state; counter = s.counter; end = s.end; place = place; released = released }

  pub loads_keep : IsKept m s → ((h : ℕ) → Alike (s.place h) (place h)) → ((h : ℕ) → IsInRange m (place h))
      → ((h i : ℕ) → Looks (place h) i → s.counter i ≡ 0) → ((h : ℕ) → HasEnded (place h) → s.end ≡ 0)
      → ((h : ℕ) → AreReleased m s (released h)) → IsKept m moved
  loads_keep k alike range looked ended items = record {
    in_range = range;
    cells = k.cells;
    states = k.states;
    free = k.free;
    full = k.full;
    claimed = λ i l e. let c = k.claimed i l e in (c.0, c.1, (alike c.0).works_back i c.1 c.2);
    working = λ h i j w. half_same m s moved i j refl (λ n b. refl) (k.working h i j ((alike h).works i j w));
    sending = λ h i n w. k.sending h i n ((alike h).sends i n w);
    alone = λ h g i a b. k.alone h g i ((alike h).has i a) ((alike g).has i b);
    counters = λ i l. same_count (Owes m s i) (Owes m moved i)
        (λ p b. owes_same m s moved p i (delivered_same m moved s p i refl (λ h n. (alike h).sends_back p n)))
        (λ p b. owes_same m moved s p i (delivered_same m s moved p i refl (λ h n. (alike h).sends p n)))
        (k.counters i l);
    end = same_count (IsUndone s) (IsUndone moved)
        (λ p b. undone_same m s moved p refl (λ h n. (alike h).sends_back p n))
        (λ p b. undone_same m moved s p refl (λ h n. (alike h).sends p n))
        k.end;
    looked = looked;
    started = k.started;
    ended = ended;
    released = λ h. released_same m s moved (λ y l z. z) (released h) (items h);
  }
