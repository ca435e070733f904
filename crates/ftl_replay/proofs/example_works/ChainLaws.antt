-- The chain is lawful work, and what its functions are.
use Rattle.std.proofs.Common.{◌≡◌, ◌≢◌, ℕ, zero, suc, ◌+◌, ◌-◌, ◌^◌, ◌<◌, ◌⊎◌, inl, inr, subst, refl, sym, ap, ◌∙◌, arith, List, [], ◌∷◌, get_or, map, pos}
use Rattle.std.specs.Prelude.{min, replicate}
use Rattle.std.proofs.lemmas.Int.{ints}
use Rattle.std.proofs.lemmas.Bool.Decides.{nat_tests}
use Rattle.std.proofs.lemmas.List.{get_or-replicate, length-replicate}
use Rattle.ftl_model.specs.layout.Values.{Value, narrow, number, sum_of, value_of, word_of_value}
use Rattle.ftl_cells.specs.shared.Count.{Counts, at_zero, counts_it}
use Rattle.ftl_cells.specs.shared.Work.{cell_total, kind_at, solution_at, item_total, pred_total, next_total, next_at, step_total, target_of, read_total, read_of, solved_reads, solved_word, IsStepOfItem, IsLawfulWork}
use Rattle.ftl_cells.specs.shared.State.{AreFirst, first_word_of}
use Rattle.ftl_cells.specs.shared.Shape.{listed, ComesNext, IsPassedCell, IsLawfulWorkShape}
use Rattle.ftl_replay.specs.example_works.Chain.{chain, chain_kind}
use Rattle.ftl_cells.specs.declared.shared.kind.CellKind.TheVariants.{Given, Target}
use Rattle.ftl_cells.proofs.shared.Counting.{none_of}
use Rattle.ftl_cells.proofs.shared.Shapes.{cell_total-listed, kind_at-listed, solution_at-listed, item_total-listed, pred_total-listed, next_total-listed, next_at-listed, step_total-listed, target_of-listed, reads_of_step-listed, read_total-listed, read_of-listed, item_below, has_step, is_lawful}

chain_counts : (n i : ℕ) → i < n → Counts (λ p. ComesNext (chain n) p i) i (min i 1)
chain_counts n zero l = at_zero
chain_counts n (suc i) l =
    let rest : Counts (λ p. ComesNext (chain n) p (suc i)) i 0 = none_of (λ p. ComesNext (chain n) p (suc i)) i
    (λ p b c. let e : p + 1 ≡ suc i = c.is in omega arith) in
    let here : ComesNext (chain n) i (suc i) = record
    { known = omega arith; at = 0; below = omega arith; is = omega arith } in
    subst (Counts (λ p. ComesNext (chain n) p (suc i)) (suc i)) (let e : 1 ≡ min (suc i) 1 = omega arith in e)
    (counts_it here rest)

chain_target : (c : ℕ) → c ≢ 0 → chain_kind c ≡ Target
chain_target zero ne = absurd (ne refl)
chain_target (suc c) ne = refl

chain_readable : (n i : ℕ) → i < n → (chain_kind i ≡ Given) ⊎ IsPassedCell (chain n) i i
chain_readable n zero l = inl refl
chain_readable n (suc i) l = inr (record {
  item = i;
  step = 0;
  next = record { known = omega arith; at = 0; below = omega arith; is = omega arith };
  known = record { item = omega arith; step = omega arith };
  is = omega arith;
})

chain_given : (c : ℕ) → chain_kind c ≡ Target → c ≢ 0
chain_given zero e = cc
chain_given (suc c) e = λ z. omega arith

chain_shape : (n : ℕ) → n < 2 ^ 16 → IsLawfulWorkShape (chain n)
chain_shape n few = record {
  values = λ c l. (omega (arith, ints), omega (arith, ints));
  next_in_range = λ i k l b. omega arith;
  next_is_later = λ i k l b. omega arith;
  next_once = λ i k m l b c e. omega arith;
  counts = chain_counts n;
  target_in_range = λ i j st. let l = st.item in omega arith;
  target_kind = λ i j st. chain_target (i + 1) (omega arith);
  target_once = λ i j k l a b e. let x = a.step in let y = b.step in (omega arith, omega arith);
  each_target = λ c l e. let ne = chain_given c e in record {
    item = c - 1;
    step = 0;
    known = record { item = omega (arith, ne); step = omega arith };
    is = omega
        (arith, ne);
  };
  read_in_range = λ i j r st b. let l = st.item in omega arith;
  readable = λ i j r st b. elim (chain_readable n i st.item) [ inl a ↦ inl a | inr b ↦ inr (inr b) ];
  few_reads = λ i j st. omega arith;
  counted = λ i l. (omega arith, omega arith);
  reads_counted = λ i j st. omega arith;
}

pub chain_is_lawful : (n : ℕ) → n < 2 ^ 16 → IsLawfulWork (listed (chain n))
chain_is_lawful n few = is_lawful (chain n) (chain_shape n few)

pub chain_cells : (n : ℕ) → cell_total (listed (chain n)) ≡ n + 1
chain_cells n = cell_total-listed (chain n)

pub chain_items : (n : ℕ) → item_total (listed (chain n)) ≡ n
chain_items n = item_total-listed (chain n)

pub chain_kinds : (n c : ℕ) → c < cell_total (listed (chain n)) → kind_at (listed (chain n)) c ≡ chain_kind c
chain_kinds n c l = kind_at-listed (chain n) c (subst (λ x. c < x) (chain_cells n) l)

pub chain_preds : (n i : ℕ) → i < item_total (listed (chain n)) → pred_total (listed (chain n)) i ≡ min i 1
chain_preds n i l = pred_total-listed (chain n) i (item_below (chain n) i l)

pub chain_next_count : (n i : ℕ) → i < item_total (listed (chain n))
    → next_total (listed (chain n)) i ≡ min 1 (n - (i + 1))
chain_next_count n i l = next_total-listed (chain n) i (item_below (chain n) i l)

pub chain_next : (n i k : ℕ) → i < item_total (listed (chain n)) → k < next_total (listed (chain n)) i
    → next_at (listed (chain n)) i k ≡ i + 1
chain_next n i k l b = next_at-listed (chain n) i k (item_below (chain n) i l)
    (subst (λ x. k < x) (chain_next_count n i l) b)

pub chain_steps : (n i : ℕ) → i < item_total (listed (chain n)) → step_total (listed (chain n)) i ≡ 1
chain_steps n i l = step_total-listed (chain n) i (item_below (chain n) i l)

pub chain_targets : (n i j : ℕ) → IsStepOfItem (listed (chain n)) i j → target_of (listed (chain n)) i j ≡ i + 1
chain_targets n i j st = target_of-listed (chain n) i j (has_step (chain n) i j st)

pub chain_read_count : (n i j : ℕ) → IsStepOfItem (listed (chain n)) i j → read_total (listed (chain n)) i j ≡ 1
chain_read_count n i j st = read_total-listed (chain n) i j (has_step (chain n) i j st)

pub chain_read : (n i j r : ℕ) → IsStepOfItem (listed (chain n)) i j → r < read_total (listed (chain n)) i j
    → read_of (listed (chain n)) i j r ≡ i
chain_read n i j r st b = read_of-listed (chain n) i j r (has_step (chain n) i j st)
    (subst (λ x. r < x) (chain_read_count n i j st) b)

pub chain_most : (n : ℕ) → (listed (chain n)).max_reads ≡ 1
unfolding listed
chain_most n = refl

pub chain_room : (n : ℕ) → (listed (chain n)).max_stack ≡ 0
unfolding listed
chain_room n = refl

value_in_range : (k : ℕ) → k < 70000 → value_of narrow (pos k) ≡ number (pos k)
value_in_range k h = grind (arith, nat_tests)

-- a step over the solution's value gives the next value
pub chain_result : (n i j : ℕ) (a : Value) (reads : List Value) → n < 2 ^ 16 → IsStepOfItem (listed (chain n)) i j
    → a ≡ get_or reads 0 a → reads ≡ solved_reads (listed (chain n)) i j
    → sum_of narrow a (number (pos 1)) ≡ solution_at (listed (chain n)) (target_of (listed (chain n)) i j)
chain_result n i j a reads few st one all =
    let st' = has_step (chain n) i j st in
    let l : i < n = st'.item in
    let read : reads ≡ solution_at (listed (chain n)) i ∷ [] = all ∙ ap (map (solution_at (listed (chain n))))
    (reads_of_step-listed (chain n) i j st') in
    let is : a ≡ number (pos i) = one ∙ ap (λ xs. get_or xs 0 a) read ∙ solution_at-listed (chain n) i
    (omega arith) in
    let sum : sum_of narrow (number (pos i)) (number (pos 1)) ≡ number (pos (i + 1)) = value_in_range (i + 1)
    (omega arith) in
    ap (λ x. sum_of narrow x (number (pos 1))) is ∙ sum ∙ sym (solution_at-listed (chain n) (i + 1) (omega arith)) ∙ ap
    (solution_at (listed (chain n))) (sym (target_of-listed (chain n) i j st'))

first_is : (n c : ℕ) → c < n + 1
    → get_or (word_of_value (number (pos 0)) ∷ replicate n 0) c 0 ≡ first_word_of (chain_kind c)
    (word_of_value (number (pos c)))
first_is n zero b = refl
first_is n (suc c) b = get_or-replicate n c 0 0 (omega arith)

-- the words of its cells before: 0 in the first, and the others empty
pub chain_first : (n : ℕ) (words : List ℕ) → words ≡ word_of_value (number (pos 0)) ∷ replicate n 0
    → AreFirst (listed (chain n)) words
chain_first n words e = subst (AreFirst (listed (chain n))) (sym e) (record {
  count = omega (arith, length-replicate {A = ℕ} n 0, chain_cells n);
  each = λ c l. let b : c < n + 1 = subst (λ x. c < x) (chain_cells n) l in
      first_is n c b ∙ ap (first_word_of (chain_kind c)) (ap word_of_value (sym (solution_at-listed (chain n) c b)))
      ∙ ap (λ q. first_word_of q (solved_word (listed (chain n)) c)) (sym (chain_kinds n c l));
})

-- what each call of the chain answers
pub ruleset chain_facts = (
  chain_is_lawful,
  chain_cells,
  chain_items,
  chain_kinds,
  chain_preds,
  chain_next_count,
  chain_next,
  chain_steps,
  chain_targets,
  chain_read_count,
  chain_read,
  chain_most,
  chain_room,
)
