-- The ladder is lawful work, and what its functions are.
use Rattle.std.proofs.Common.{◌≡◌, ℕ, zero, suc, ◌+◌, ◌-◌, ◌*◌, ◌/◌, ◌%◌, ◌^◌, ◌<◌, ◌⊎◌, inl, inr, subst, refl, sym, ap, ◌∙◌, arith, List, [], ◌∷◌, get_or, map, pos}
use Rattle.std.specs.Prelude.{min, replicate}
use Rattle.std.proofs.lemmas.Int.{ints}
use Rattle.std.proofs.lemmas.Bool.Decides.{nat_tests}
use Rattle.std.proofs.lemmas.List.{get_or-replicate, length-replicate}
use Rattle.ftl_model.specs.layout.Values.{Value, narrow, number, sum_of, value_of, word_of_value}
use Rattle.ftl_cells.specs.shared.Count.{Counts, at_zero, counts_it, skips_it}
use Rattle.ftl_cells.specs.shared.Work.{cell_total, kind_at, solution_at, item_total, pred_total, next_total, next_at, step_total, target_of, read_total, read_of, solved_reads, solved_word, IsStepOfItem, IsLawfulWork}
use Rattle.ftl_cells.specs.shared.State.{AreFirst, first_word_of}
use Rattle.ftl_cells.specs.shared.Shape.{listed, HasStep, ComesNext, IsOwnCell, IsPassedCell, IsFilledBy, IsLawfulWorkShape}
use Rattle.ftl_replay.specs.example_works.Ladder.{ladder, ladder_kind, ladder_read}
use Rattle.ftl_cells.specs.declared.shared.kind.CellKind.TheVariants.{Given, Target}
use Rattle.ftl_cells.proofs.shared.Counting.{none_of}
use Rattle.ftl_cells.proofs.shared.Shapes.{cell_total-listed, kind_at-listed, solution_at-listed, item_total-listed, pred_total-listed, next_total-listed, next_at-listed, step_total-listed, target_of-listed, reads_of_step-listed, read_total-listed, read_of-listed, item_below, has_step, is_lawful}

ladder_counts : (n i : ℕ) → i < n → Counts (λ p. ComesNext (ladder n) p i) i (min (i - 1) 1)
ladder_counts n zero l = at_zero
ladder_counts n (suc zero) l = skips_it (λ c. let e : 0 + 2 ≡ 1 = c.is in omega arith) at_zero
ladder_counts n (suc (suc i)) l =
    let rest : Counts (λ p. ComesNext (ladder n) p (suc (suc i))) i 0 =
    none_of (λ p. ComesNext (ladder n) p (suc (suc i))) i
    (λ p b c. let e : p + 2 ≡ suc (suc i) = c.is in omega arith) in
    let here : ComesNext (ladder n) i (suc (suc i)) = record
    { known = omega arith; at = 0; below = omega arith; is = omega arith } in
    let most : min (suc (suc i) - 1) 1 ≡ 1 = omega arith in
    subst (Counts (λ p. ComesNext (ladder n) p (suc (suc i))) (suc (suc i))) (sym most)
    (skips_it (λ c. let e : suc i + 2 ≡ suc (suc i) = c.is in omega arith) (counts_it here rest))

ladder_target : (c : ℕ) → 1 < c → ladder_kind c ≡ Target
ladder_target zero b = absurd (omega arith)
ladder_target (suc zero) b = absurd (omega arith)
ladder_target (suc (suc c)) b = refl

ladder_late : (c : ℕ) → ladder_kind c ≡ Target → 1 < c
ladder_late zero e = absurd cc
ladder_late (suc zero) e = absurd cc
ladder_late (suc (suc c)) e = omega arith

-- a cell that an item fills is that of one of its steps
filled_by : (n c : ℕ) → 1 < c → c < 2 * n + 2 → IsFilledBy (ladder n) c
filled_by n c a b = record {
  item = (c - 2) / 2;
  step = (c - 2) % 2;
  known = record { item = omega arith; step = omega arith };
  is = omega arith;
}

ladder_reads : (n i j : ℕ) → HasStep (ladder n) i j
    → (ladder_kind (ladder_read i j) ≡ Given) ⊎ IsOwnCell (ladder n) i j (ladder_read i j)
    ⊎ IsPassedCell (ladder n) i (ladder_read i j)
ladder_reads n zero zero st = inl refl
ladder_reads n (suc zero) zero st = inl refl
ladder_reads n (suc (suc i)) zero st = let l : suc (suc i) < n = st.item in inr (inr (record {
  item = i;
  step = 1;
  next = record { known = omega arith; at = 0; below = omega arith; is = omega arith };
  known = record { item = omega arith; step = omega arith };
  is = omega arith;
}))
ladder_reads n i (suc j) st = inr (inl (record { step = 0; earlier = omega arith; is = omega arith }))

ladder_read_below : (n i j : ℕ) → i < n → ladder_read i j < 2 * n + 2
ladder_read_below n i zero l = omega arith
ladder_read_below n i (suc j) l = omega arith

ladder_shape : (n : ℕ) → n < 2 ^ 8 → IsLawfulWorkShape (ladder n)
ladder_shape n few = record {
  values = λ c l. (omega (arith, ints), omega (arith, ints));
  next_in_range = λ i k l b. omega arith;
  next_is_later = λ i k l b. omega arith;
  next_once = λ i k m l b c e. omega arith;
  counts = ladder_counts n;
  target_in_range = λ i j st. let l = st.item in let b = st.step in omega arith;
  target_kind = λ i j st. ladder_target (2 * i + 2 + j) (omega arith);
  target_once = λ i j k l a b e. let x = a.step in let y = b.step in (omega arith, omega arith);
  each_target = λ c l e. filled_by n c (ladder_late c e) l;
  read_in_range = λ i j r st b. ladder_read_below n i j st.item;
  readable = λ i j r st b. ladder_reads n i j st;
  few_reads = λ i j st. omega arith;
  counted = λ i l. (omega arith, omega arith);
  reads_counted = λ i j st. omega arith;
}

pub ladder_is_lawful : (n : ℕ) → n < 2 ^ 8 → IsLawfulWork (listed (ladder n))
ladder_is_lawful n few = is_lawful (ladder n) (ladder_shape n few)

pub ladder_cells : (n : ℕ) → cell_total (listed (ladder n)) ≡ 2 * n + 2
ladder_cells n = cell_total-listed (ladder n)

pub ladder_items : (n : ℕ) → item_total (listed (ladder n)) ≡ n
ladder_items n = item_total-listed (ladder n)

pub ladder_kinds : (n c : ℕ) → c < cell_total (listed (ladder n)) → kind_at (listed (ladder n)) c ≡ ladder_kind c
ladder_kinds n c l = kind_at-listed (ladder n) c (subst (λ x. c < x) (ladder_cells n) l)

pub ladder_solution : (n c : ℕ) → c < cell_total (listed (ladder n))
    → solution_at (listed (ladder n)) c ≡ number (pos c)
ladder_solution n c l = solution_at-listed (ladder n) c (subst (λ x. c < x) (ladder_cells n) l)

pub ladder_preds : (n i : ℕ) → i < item_total (listed (ladder n)) → pred_total (listed (ladder n)) i ≡ min (i - 1) 1
ladder_preds n i l = pred_total-listed (ladder n) i (item_below (ladder n) i l)

pub ladder_next_count : (n i : ℕ) → i < item_total (listed (ladder n))
    → next_total (listed (ladder n)) i ≡ min 1 (n - (i + 2))
ladder_next_count n i l = next_total-listed (ladder n) i (item_below (ladder n) i l)

pub ladder_next : (n i k : ℕ) → i < item_total (listed (ladder n)) → k < next_total (listed (ladder n)) i
    → next_at (listed (ladder n)) i k ≡ i + 2
ladder_next n i k l b = next_at-listed (ladder n) i k (item_below (ladder n) i l)
    (subst (λ x. k < x) (ladder_next_count n i l) b)

pub ladder_steps : (n i : ℕ) → i < item_total (listed (ladder n)) → step_total (listed (ladder n)) i ≡ 2
ladder_steps n i l = step_total-listed (ladder n) i (item_below (ladder n) i l)

pub ladder_step : (n i j : ℕ) → IsStepOfItem (listed (ladder n)) i j → (i < n) × (j < 2)
ladder_step n i j st = let s = has_step (ladder n) i j st in (s.item, s.step)

pub ladder_targets : (n i j : ℕ) → IsStepOfItem (listed (ladder n)) i j
    → target_of (listed (ladder n)) i j ≡ 2 * i + 2 + j
ladder_targets n i j st = target_of-listed (ladder n) i j (has_step (ladder n) i j st)

pub ladder_read_count : (n i j : ℕ) → IsStepOfItem (listed (ladder n)) i j
    → read_total (listed (ladder n)) i j ≡ 1
ladder_read_count n i j st = read_total-listed (ladder n) i j (has_step (ladder n) i j st)

pub ladder_read_is : (n i j r : ℕ) → IsStepOfItem (listed (ladder n)) i j → r < read_total (listed (ladder n)) i j
    → read_of (listed (ladder n)) i j r ≡ ladder_read i j
ladder_read_is n i j r st b = read_of-listed (ladder n) i j r (has_step (ladder n) i j st)
    (subst (λ x. r < x) (ladder_read_count n i j st) b)

pub ladder_most : (n : ℕ) → (listed (ladder n)).max_reads ≡ 1
unfolding listed
ladder_most n = refl

pub ladder_room : (n : ℕ) → (listed (ladder n)).max_stack ≡ 0
unfolding listed
ladder_room n = refl

value_in_range : (k : ℕ) → k < 600 → value_of narrow (pos k) ≡ number (pos k)
value_in_range k h = grind (arith, nat_tests)

-- a step over the solution's value gives the next value, where it adds the distance of the cells
pub ladder_result : (n i j more : ℕ) (a : Value) (reads : List Value) → n < 2 ^ 8
    → IsStepOfItem (listed (ladder n)) i j → ladder_read i j + more ≡ 2 * i + 2 + j
    → a ≡ get_or reads 0 a → reads ≡ solved_reads (listed (ladder n)) i j
    → sum_of narrow a (number (pos more)) ≡ solution_at (listed (ladder n)) (target_of (listed (ladder n)) i j)
ladder_result n i j more a reads few st far one all =
    let st' = has_step (ladder n) i j st in
    let l : i < n = st'.item in
    let b : j < 2 = st'.step in
    let read : reads ≡ solution_at (listed (ladder n)) (ladder_read i j) ∷ [] =
    all ∙ ap (map (solution_at (listed (ladder n)))) (reads_of_step-listed (ladder n) i j st') in
    let is : a ≡ number (pos (ladder_read i j)) = one ∙ ap (λ xs. get_or xs 0 a) read
    ∙ solution_at-listed (ladder n) (ladder_read i j) (ladder_read_below n i j l) in
    let sum : sum_of narrow (number (pos (ladder_read i j))) (number (pos more))
    ≡ number (pos (ladder_read i j + more)) = value_in_range (ladder_read i j + more) (omega arith) in
    ap (λ x. sum_of narrow x (number (pos more))) is ∙ sum ∙ ap (λ c. number (pos c)) far
    ∙ sym (solution_at-listed (ladder n) (2 * i + 2 + j) (omega arith))
    ∙ ap (solution_at (listed (ladder n))) (sym (target_of-listed (ladder n) i j st'))

first_is : (n c : ℕ) → c < 2 * n + 2
    → get_or (word_of_value (number (pos 0)) ∷ word_of_value (number (pos 1)) ∷ replicate (2 * n) 0) c 0
    ≡ first_word_of (ladder_kind c) (word_of_value (number (pos c)))
first_is n zero b = refl
first_is n (suc zero) b = refl
first_is n (suc (suc c)) b = get_or-replicate (2 * n) c 0 0 (omega arith)

-- the words of its cells before: 0 and 1 in the first two, and the others empty
pub ladder_first : (n : ℕ) (words : List ℕ)
    → words ≡ word_of_value (number (pos 0)) ∷ word_of_value (number (pos 1)) ∷ replicate (2 * n) 0
    → AreFirst (listed (ladder n)) words
ladder_first n words e = subst (AreFirst (listed (ladder n))) (sym e) (record {
  count = omega (arith, length-replicate {A = ℕ} (2 * n) 0, ladder_cells n);
  each = λ c l. let b : c < 2 * n + 2 = subst (λ x. c < x) (ladder_cells n) l in
      first_is n c b
      ∙ ap (first_word_of (ladder_kind c)) (ap word_of_value (sym (solution_at-listed (ladder n) c b)))
      ∙ ap (λ q. first_word_of q (solved_word (listed (ladder n)) c)) (sym (ladder_kinds n c l));
})

-- what each call of the ladder answers
pub ruleset ladder_facts = (
  ladder_is_lawful,
  ladder_cells,
  ladder_items,
  ladder_kinds,
  ladder_solution,
  ladder_preds,
  ladder_next_count,
  ladder_next,
  ladder_steps,
  ladder_step,
  ladder_targets,
  ladder_read_count,
  ladder_read_is,
  ladder_most,
  ladder_room,
  ladder_first,
)
