-- Eight items that wait for none are lawful work, and what their functions are.
use Rattle.std.proofs.Common.{◌≡◌, ℕ, zero, suc, ◌+◌, ◌-◌, ◌*◌, ◌<◌, ◌≤◌, inl, subst, refl, sym, ap, ◌∙◌, arith, List, [], ◌∷◌, get_or, map, pos}
use Rattle.std.specs.Prelude.{min, cond, replicate}
use Rattle.std.proofs.lemmas.Int.{ints}
use Rattle.std.proofs.lemmas.Bool.{lt-ltb, le-ltb}
use Rattle.std.proofs.lemmas.Bool.Decides.{nat_tests}
use Rattle.std.proofs.lemmas.List.{get_or-replicate, length-replicate}
use mathlib.Core.Logic.{dite}
use native.Mathlib.Decide.{dec_le}
use Rattle.ftl_model.specs.layout.Values.{Value, narrow, number, sum_of, value_of, word_of_value}
use Rattle.ftl_cells.specs.shared.Work.{cell_total, kind_at, solution_at, item_total, pred_total, next_total, step_total, target_of, read_total, read_of, solved_reads, solved_word, IsStepOfItem, IsLawfulWork}
use Rattle.ftl_cells.specs.shared.State.{AreFirst, first_word_of}
use Rattle.ftl_cells.specs.shared.Shape.{listed, ComesNext, IsLawfulWorkShape}
use Rattle.ftl_replay.specs.example_works.Eight.{eight_alone, eight_kind}
use Rattle.ftl_cells.specs.declared.shared.kind.CellKind.TheVariants.{Given, Target}
use Rattle.ftl_cells.proofs.shared.Counting.{none_of}
use Rattle.ftl_cells.proofs.shared.Shapes.{cell_total-listed, kind_at-listed, solution_at-listed, item_total-listed, pred_total-listed, next_total-listed, step_total-listed, target_of-listed, reads_of_step-listed, read_total-listed, read_of-listed, item_below, has_step, is_lawful}

given_below : (c : ℕ) → c < 8 → eight_kind c ≡ Given
given_below c l = ap (λ b. cond b Given Target) (lt-ltb c 8 l)

target_from : (c : ℕ) → 8 ≤ c → eight_kind c ≡ Target
target_from c l = ap (λ b. cond b Given Target) (le-ltb c 8 l)

from_eight : (c : ℕ) → eight_kind c ≡ Target → 8 ≤ c
from_eight c e = dite (dec_le 8 c) (λ l. l)
    (λ no. let g : Given ≡ Target = sym (given_below c (omega (arith, no))) ∙ e in absurd (cc))

eight_shape : IsLawfulWorkShape eight_alone
eight_shape = record {
  values = λ c l. (omega (arith, ints), omega (arith, ints));
  next_in_range = λ i k l b. absurd (omega arith);
  next_is_later = λ i k l b. absurd (omega arith);
  next_once = λ i k m l b c e. absurd (omega arith);
  counts = λ i l. none_of (λ p. ComesNext eight_alone p i) i (λ p b c. let n : c.at < 0 = c.below in omega arith);
  target_in_range = λ i j st. let l = st.item in omega arith;
  target_kind = λ i j st. target_from (8 + i) (omega arith);
  target_once = λ i j k l a b e. let x = a.step in let y = b.step in (omega arith, omega arith);
  each_target = λ c l e. let b = from_eight c e in record {
    item = c - 8;
    step = 0;
    known = record { item = omega arith; step = omega arith };
    is = omega arith;
  };
  read_in_range = λ i j r st b. let l = st.item in omega arith;
  readable = λ i j r st b. inl (given_below i st.item);
  few_reads = λ i j st. omega arith;
  counted = λ i l. (omega arith, omega arith);
  reads_counted = λ i j st. omega arith;
}

pub eight_is_lawful : IsLawfulWork (listed eight_alone)
eight_is_lawful = is_lawful eight_alone eight_shape

pub eight_cells : cell_total (listed eight_alone) ≡ 16
eight_cells = cell_total-listed eight_alone

pub eight_items : item_total (listed eight_alone) ≡ 8
eight_items = item_total-listed eight_alone

pub eight_kinds : (c : ℕ) → c < cell_total (listed eight_alone) → kind_at (listed eight_alone) c ≡ eight_kind c
eight_kinds c l = kind_at-listed eight_alone c (subst (λ x. c < x) eight_cells l)

pub eight_preds : (i : ℕ) → i < item_total (listed eight_alone) → pred_total (listed eight_alone) i ≡ 0
eight_preds i l = pred_total-listed eight_alone i (item_below eight_alone i l)

pub eight_next_count : (i : ℕ) → i < item_total (listed eight_alone) → next_total (listed eight_alone) i ≡ 0
eight_next_count i l = next_total-listed eight_alone i (item_below eight_alone i l)

pub eight_steps : (i : ℕ) → i < item_total (listed eight_alone) → step_total (listed eight_alone) i ≡ 1
eight_steps i l = step_total-listed eight_alone i (item_below eight_alone i l)

pub eight_targets : (i j : ℕ) → IsStepOfItem (listed eight_alone) i j → target_of (listed eight_alone) i j ≡ 8 + i
eight_targets i j st = target_of-listed eight_alone i j (has_step eight_alone i j st)

pub eight_read_count : (i j : ℕ) → IsStepOfItem (listed eight_alone) i j → read_total (listed eight_alone) i j ≡ 1
eight_read_count i j st = read_total-listed eight_alone i j (has_step eight_alone i j st)

pub eight_read : (i j r : ℕ) → IsStepOfItem (listed eight_alone) i j → r < read_total (listed eight_alone) i j
    → read_of (listed eight_alone) i j r ≡ i
eight_read i j r st b = read_of-listed eight_alone i j r (has_step eight_alone i j st)
    (subst (λ x. r < x) (eight_read_count i j st) b)

pub eight_below : (i j : ℕ) → IsStepOfItem (listed eight_alone) i j → i < 8
eight_below i j st = let st' = has_step eight_alone i j st in st'.item

pub eight_most : (listed eight_alone).max_reads ≡ 1
unfolding listed
eight_most = refl

pub eight_room : (listed eight_alone).max_stack ≡ 0
unfolding listed
eight_room = refl

value_in_range : (k : ℕ) → k < 300 → value_of narrow (pos k) ≡ number (pos k)
value_in_range k h = grind (arith, nat_tests)

-- a step over the solution's value gives the next value
pub eight_result : (i j : ℕ) (a : Value) (reads : List Value) → IsStepOfItem (listed eight_alone) i j
    → a ≡ get_or reads 0 a → reads ≡ solved_reads (listed eight_alone) i j
    → sum_of narrow a (number (pos 1)) ≡ solution_at (listed eight_alone) (target_of (listed eight_alone) i j)
eight_result i j a reads st one all =
    let st' = has_step eight_alone i j st in
    let l : i < 8 = st'.item in
    let read : reads ≡ solution_at (listed eight_alone) i ∷ [] = all ∙ ap (map (solution_at (listed eight_alone)))
    (reads_of_step-listed eight_alone i j st') in
    let low : i - 7 * min 1 (i - 7) ≡ i = omega arith in
    let high : (8 + i) - 7 * min 1 ((8 + i) - 7) ≡ i + 1 = omega arith in
    let is : a ≡ number (pos i) = one ∙ ap (λ xs. get_or xs 0 a) read ∙ solution_at-listed eight_alone i
    (omega arith) ∙ ap (λ (x : ℕ). number (pos x)) low in
    let sum : sum_of narrow (number (pos i)) (number (pos 1)) ≡ number (pos (i + 1)) = value_in_range (i + 1)
    (omega arith) in
    ap (λ x. sum_of narrow x (number (pos 1))) is ∙ sum ∙ ap (λ (x : ℕ). number (pos x)) (sym high)
    ∙ sym (solution_at-listed eight_alone (8 + i) (omega arith))
    ∙ ap (solution_at (listed eight_alone)) (sym (target_of-listed eight_alone i j st'))

-- what each call of it answers
pub ruleset eight_facts = (
  eight_is_lawful,
  eight_cells,
  eight_items,
  eight_kinds,
  eight_preds,
  eight_next_count,
  eight_steps,
  eight_targets,
  eight_read_count,
  eight_read,
  eight_below,
  eight_most,
  eight_room,
)

word : ℕ → ℕ
word n = word_of_value (number (pos n))

-- the words of its cells before: 0 to 7 in the first, and the others empty
firsts : List ℕ
firsts = word 0 ∷ word 1 ∷ word 2 ∷ word 3 ∷ word 4 ∷ word 5 ∷ word 6 ∷ word 7 ∷ replicate 8 0

first_is : (c : ℕ) → c < 16 → get_or firsts c 0
    ≡ first_word_of (eight_kind c) (word_of_value (number (pos (c - 7 * min 1 (c - 7)))))
unfolding firsts word
first_is zero b = refl
first_is (suc zero) b = refl
first_is (suc (suc zero)) b = refl
first_is (suc (suc (suc zero))) b = refl
first_is (suc (suc (suc (suc zero)))) b = refl
first_is (suc (suc (suc (suc (suc zero))))) b = refl
first_is (suc (suc (suc (suc (suc (suc zero)))))) b = refl
first_is (suc (suc (suc (suc (suc (suc (suc zero))))))) b = refl
first_is (suc (suc (suc (suc (suc (suc (suc (suc c)))))))) b =
    let at : ℕ = suc (suc (suc (suc (suc (suc (suc (suc c))))))) in
    get_or-replicate 8 c 0 0 (omega arith)
    ∙ sym (ap (λ q. first_word_of q (word_of_value (number (pos (at - 7 * min 1 (at - 7))))))
    (target_from at (omega arith)))

pub eight_first : (words : List ℕ)
    → words ≡ word_of_value (number (pos 0)) ∷ word_of_value (number (pos 1)) ∷ word_of_value (number (pos 2))
    ∷ word_of_value (number (pos 3)) ∷ word_of_value (number (pos 4)) ∷ word_of_value (number (pos 5))
    ∷ word_of_value (number (pos 6)) ∷ word_of_value (number (pos 7)) ∷ replicate 8 0
    → AreFirst (listed eight_alone) words
unfolding firsts word
eight_first words e = subst (AreFirst (listed eight_alone)) (sym e) (record {
  count = omega (arith, length-replicate {A = ℕ} 8 0, eight_cells);
  each = λ c l. let b : c < 16 = subst (λ x. c < x) eight_cells l in
      first_is c b ∙ ap (first_word_of (eight_kind c)) (ap word_of_value (sym (solution_at-listed eight_alone c b)))
      ∙ ap (λ q. first_word_of q (solved_word (listed eight_alone) c)) (sym (eight_kinds c l));
})
