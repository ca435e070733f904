-- Seven items that wait for one are lawful work, and what their functions are.
use Rattle.std.proofs.Common.{◌≡◌, ◌≢◌, ℕ, zero, suc, ◌+◌, ◌-◌, ◌*◌, ◌<◌, ◌⊎◌, inl, inr, subst, refl, sym, ap, ◌∙◌, arith, List, [], ◌∷◌, get_or, map, pos}
use Rattle.std.specs.Prelude.{min, max, replicate}
use Rattle.std.proofs.lemmas.Int.{ints}
use Rattle.std.proofs.lemmas.Bool.Decides.{nat_tests}
use Rattle.std.proofs.lemmas.List.{get_or-replicate, length-replicate}
use Rattle.ftl_model.specs.layout.Values.{Value, narrow, wide, number, sum_of, value_of, word_of_value}
use Rattle.ftl_cells.specs.shared.Count.{Counts, at_zero, counts_it, skips_it}
use Rattle.ftl_cells.specs.shared.Work.{cell_total, kind_at, solution_at, item_total, pred_total, next_total, next_at, step_total, target_of, read_total, read_of, solved_reads, solved_word, IsStepOfItem, IsLawfulWork}
use Rattle.ftl_cells.specs.shared.State.{AreFirst, first_word_of}
use Rattle.ftl_cells.specs.shared.Shape.{listed, ComesNext, IsPassedCell, IsLawfulWorkShape}
use Rattle.ftl_replay.specs.example_works.Star.{star, star_kind}
use Rattle.ftl_cells.specs.declared.shared.kind.CellKind.TheVariants.{Given, Target}
use Rattle.ftl_cells.proofs.shared.Shapes.{cell_total-listed, kind_at-listed, solution_at-listed, item_total-listed, pred_total-listed, next_total-listed, next_at-listed, step_total-listed, target_of-listed, reads_of_step-listed, read_total-listed, read_of-listed, item_below, has_step, is_lawful}

-- the first item comes before each other one, and no other item does
first_is_next : (i : ℕ) → suc i < 8 → ComesNext star 0 (suc i)
first_is_next i l = record { known = omega arith; at = i; below = omega arith; is = omega arith }

only_first : (i k : ℕ) → suc i < 8 → Counts (λ p. ComesNext star p (suc i)) (suc k) 1
only_first i zero l = counts_it (first_is_next i l) at_zero
only_first i (suc k) l = skips_it
    (λ (c : ComesNext star (suc k) (suc i)). let b : c.at < 7 - 7 * suc k = c.below in omega arith) (only_first i k l)

star_counts : (i : ℕ) → i < 8 → Counts (λ p. ComesNext star p i) i (min i 1)
star_counts zero l = at_zero
star_counts (suc i) l = subst (Counts (λ p. ComesNext star p (suc i)) (suc i))
    (let e : 1 ≡ min (suc i) 1 = omega arith in e) (only_first i i l)

star_target : (c : ℕ) → c ≢ 0 → star_kind c ≡ Target
star_target zero ne = absurd (ne refl)
star_target (suc c) ne = refl

star_given : (c : ℕ) → star_kind c ≡ Target → c ≢ 0
star_given zero e = cc
star_given (suc c) e = λ z. omega arith

star_readable : (i : ℕ) → i < 8 → (star_kind (min i 1) ≡ Given) ⊎ IsPassedCell star i (min i 1)
star_readable zero l = inl refl
star_readable (suc i) l = inr (record {
  item = 0;
  step = 0;
  next = first_is_next i l;
  known = record { item = omega arith; step = omega arith };
  is = omega arith;
})

star_shape : IsLawfulWorkShape star
star_shape = record {
  values = λ c l. (omega (arith, ints), omega (arith, ints));
  next_in_range = λ i k l b. omega arith;
  next_is_later = λ i k l b. omega arith;
  next_once = λ i k m l b c e. omega arith;
  counts = star_counts;
  target_in_range = λ i j st. let l = st.item in omega arith;
  target_kind = λ i j st. star_target (i + 1) (omega arith);
  target_once = λ i j k l a b e. let x = a.step in let y = b.step in (omega arith, omega arith);
  each_target = λ c l e. let ne = star_given c e in record {
    item = c - 1;
    step = 0;
    known = record { item = omega (arith, ne); step = omega arith };
    is = omega (arith, ne);
  };
  read_in_range = λ i j r st b. let l = st.item in omega arith;
  readable = λ i j r st b. elim (star_readable i st.item) [ inl a ↦ inl a | inr b ↦ inr (inr b) ];
  few_reads = λ i j st. omega arith;
  counted = λ i l. (omega arith, omega arith);
  reads_counted = λ i j st. omega arith;
}

pub star_is_lawful : IsLawfulWork (listed star)
star_is_lawful = is_lawful star star_shape

pub star_cells : cell_total (listed star) ≡ 9
star_cells = cell_total-listed star

pub star_items : item_total (listed star) ≡ 8
star_items = item_total-listed star

pub star_kinds : (c : ℕ) → c < cell_total (listed star) → kind_at (listed star) c ≡ star_kind c
star_kinds c l = kind_at-listed star c (subst (λ x. c < x) star_cells l)

pub star_preds : (i : ℕ) → i < item_total (listed star) → pred_total (listed star) i ≡ min i 1
star_preds i l = pred_total-listed star i (item_below star i l)

pub star_next_count : (i : ℕ) → i < item_total (listed star) → next_total (listed star) i ≡ 7 - 7 * i
star_next_count i l = next_total-listed star i (item_below star i l)

pub star_next : (i k : ℕ) → i < item_total (listed star) → k < next_total (listed star) i
    → next_at (listed star) i k ≡ k + 1
star_next i k l b = next_at-listed star i k (item_below star i l) (subst (λ x. k < x) (star_next_count i l) b)

pub star_next_few : (i k : ℕ) → i < item_total (listed star) → k < next_total (listed star) i → k < 7
star_next_few i k l b = omega (arith, b, star_next_count i l)

pub star_steps : (i : ℕ) → i < item_total (listed star) → step_total (listed star) i ≡ 1
star_steps i l = step_total-listed star i (item_below star i l)

pub star_targets : (i j : ℕ) → IsStepOfItem (listed star) i j → target_of (listed star) i j ≡ i + 1
star_targets i j st = target_of-listed star i j (has_step star i j st)

pub star_read_count : (i j : ℕ) → IsStepOfItem (listed star) i j → read_total (listed star) i j ≡ 1
star_read_count i j st = read_total-listed star i j (has_step star i j st)

pub star_read : (i j r : ℕ) → IsStepOfItem (listed star) i j → r < read_total (listed star) i j
    → read_of (listed star) i j r ≡ min i 1
star_read i j r st b = read_of-listed star i j r (has_step star i j st) (subst (λ x. r < x) (star_read_count i j st) b)

pub star_below : (i j : ℕ) → IsStepOfItem (listed star) i j → i < 8
star_below i j st = let st' = has_step star i j st in st'.item

pub star_most : (listed star).max_reads ≡ 1
unfolding listed
star_most = refl

pub star_room : (listed star).max_stack ≡ 0
unfolding listed
star_room = refl

value_in_range : (a b : ℕ) → a < 300 → b < 300 → value_of narrow (pos (a + b)) ≡ number (pos (a + b))
value_in_range a b h l = grind (arith, nat_tests)

-- a small number is a value
pub small_number : (k : ℕ) → k < 300 → value_of wide (pos k) ≡ number (pos k)
small_number k h = grind (arith, nat_tests)

-- a step over the solution's value gives the solution's value
pub star_result : (i j : ℕ) (a : Value) (reads : List Value) → IsStepOfItem (listed star) i j
    → a ≡ get_or reads 0 a → reads ≡ solved_reads (listed star) i j
    → sum_of narrow a (number (pos (max i 1))) ≡ solution_at (listed star) (target_of (listed star) i j)
star_result i j a reads st one all =
    let st' = has_step star i j st in
    let l : i < 8 = st'.item in
    let read : reads ≡ solution_at (listed star) (min i 1) ∷ [] = all ∙ ap (map (solution_at (listed star)))
    (reads_of_step-listed star i j st') in
    let is : a ≡ number (pos (5 + min i 1)) = one ∙ ap (λ xs. get_or xs 0 a) read ∙ solution_at-listed star (min i 1)
    (omega arith) in
    let sum : sum_of narrow (number (pos (5 + min i 1))) (number (pos (max i 1)))
    ≡ number (pos (5 + min i 1 + max i 1)) = value_in_range (5 + min i 1) (max i 1) (omega arith) (omega arith) in
    let same : 5 + min i 1 + max i 1 ≡ 5 + (i + 1) = omega arith in
    ap (λ x. sum_of narrow x (number (pos (max i 1)))) is ∙ sum ∙ ap (λ (x : ℕ). number (pos x)) same
    ∙ sym (solution_at-listed star (i + 1) (omega arith))
    ∙ ap (solution_at (listed star)) (sym (target_of-listed star i j st'))

-- what each call of it answers
pub ruleset star_facts = (
  star_is_lawful,
  star_cells,
  star_items,
  star_kinds,
  star_preds,
  star_next_count,
  star_next,
  star_next_few,
  star_steps,
  star_targets,
  star_read_count,
  star_read,
  star_below,
  star_most,
  star_room,
)

first_is : (c : ℕ) → c < 9 → get_or (word_of_value (number (pos 5)) ∷ replicate 8 0) c 0
    ≡ first_word_of (star_kind c) (word_of_value (number (pos (5 + c))))
first_is zero b = refl
first_is (suc c) b = get_or-replicate 8 c 0 0 (omega arith)

-- the words of its cells before: 5 in the first, and the others empty
pub star_first : (words : List ℕ) → words ≡ word_of_value (number (pos 5)) ∷ replicate 8 0
    → AreFirst (listed star) words
star_first words e = subst (AreFirst (listed star)) (sym e) (record {
  count = omega (arith, length-replicate {A = ℕ} 8 0, star_cells);
  each = λ c l. let b : c < 9 = subst (λ x. c < x) star_cells l in
      first_is c b ∙ ap (first_word_of (star_kind c)) (ap word_of_value (sym (solution_at-listed star c b)))
      ∙ ap (λ q. first_word_of q (solved_word (listed star) c)) (sym (star_kinds c l));
})
