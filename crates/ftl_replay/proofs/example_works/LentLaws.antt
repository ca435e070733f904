-- The work with the numbers of a list is lawful, and what its functions are.
use Rattle.std.proofs.Common.{◌≡◌, ℕ, ◌^◌, ◌<◌, subst, refl, sym, ap, ◌∙◌, arith, List, length, get_or}
use Rattle.std.specs.Prelude.{min, pos, replicate}
use Rattle.std.proofs.lemmas.Int.{ints}
use Rattle.std.proofs.lemmas.Bool.Decides.{nat_tests}
use Rattle.std.proofs.lemmas.List.{get_or-replicate, length-replicate}
use Rattle.ftl_model.specs.layout.Values.{Value, number, value_of, wide}
use Rattle.ftl_cells.specs.shared.Work.{cell_total, kind_at, solution_at, item_total, pred_total, next_total, step_total, target_of, read_total, solved_word, IsStepOfItem, IsLawfulWork}
use Rattle.ftl_cells.specs.shared.State.{live, AreFirst, first_word_of}
use Rattle.ftl_cells.specs.shared.Calls.{CanFill}
use Rattle.ftl_cells.specs.declared.shared.place.HandPlace.TheVariants.{Working}
use Rattle.ftl_cells.specs.shared.Shape.{listed, ComesNext, IsLawfulWorkShape}
use Rattle.ftl_replay.specs.example_works.Lent.{lent}
use Rattle.ftl_cells.specs.declared.shared.kind.CellKind.TheVariants.{Target}
use Rattle.ftl_cells.proofs.shared.Counting.{none_of}
use Rattle.ftl_cells.proofs.shared.Shapes.{cell_total-listed, kind_at-listed, solution_at-listed, item_total-listed, pred_total-listed, next_total-listed, step_total-listed, target_of-listed, read_total-listed, item_below, has_step, is_lawful}

lent_shape : (xs : List ℕ) → IsLawfulWorkShape (lent xs)
lent_shape xs = record {
  values = λ c l. (omega (arith, ints), omega (arith, ints));
  next_in_range = λ i k l b. absurd (omega arith);
  next_is_later = λ i k l b. absurd (omega arith);
  next_once = λ i k m l b c e. absurd (omega arith);
  counts = λ i l. none_of (λ p. ComesNext (lent xs) p i) i (λ p b c. let n : c.at < 0 = c.below in omega arith);
  target_in_range = λ i j st. st.item;
  target_kind = λ i j st. refl;
  target_once = λ i j k l a b e. let x = a.step in let y = b.step in (e, omega arith);
  each_target = λ c l e. record
      { item = c; step = 0; known = record { item = l; step = omega arith }; is = refl };
  read_in_range = λ i j r st b. absurd (omega arith);
  readable = λ i j r st b. absurd (omega arith);
  few_reads = λ i j st. omega arith;
  counted = λ i l. (omega arith, omega arith);
  reads_counted = λ i j st. omega arith;
}

pub lent_is_lawful : (xs : List ℕ) → IsLawfulWork (listed (lent xs))
lent_is_lawful xs = is_lawful (lent xs) (lent_shape xs)

pub lent_cells : (xs : List ℕ) → cell_total (listed (lent xs)) ≡ length xs
lent_cells xs = cell_total-listed (lent xs)

pub lent_items : (xs : List ℕ) → item_total (listed (lent xs)) ≡ length xs
lent_items xs = item_total-listed (lent xs)

pub lent_kinds : (xs : List ℕ) (c : ℕ) → c < cell_total (listed (lent xs)) → kind_at (listed (lent xs)) c ≡ Target
lent_kinds xs c l = kind_at-listed (lent xs) c (subst (λ x. c < x) (lent_cells xs) l)

pub lent_preds : (xs : List ℕ) (i : ℕ) → i < item_total (listed (lent xs)) → pred_total (listed (lent xs)) i ≡ 0
lent_preds xs i l = pred_total-listed (lent xs) i (item_below (lent xs) i l)

pub lent_next_count : (xs : List ℕ) (i : ℕ) → i < item_total (listed (lent xs)) → next_total (listed (lent xs)) i ≡ 0
lent_next_count xs i l = next_total-listed (lent xs) i (item_below (lent xs) i l)

pub lent_steps : (xs : List ℕ) (i : ℕ) → i < item_total (listed (lent xs)) → step_total (listed (lent xs)) i ≡ 1
lent_steps xs i l = step_total-listed (lent xs) i (item_below (lent xs) i l)

pub lent_targets : (xs : List ℕ) (i j : ℕ) → IsStepOfItem (listed (lent xs)) i j → target_of (listed (lent xs)) i j ≡ i
lent_targets xs i j st = target_of-listed (lent xs) i j (has_step (lent xs) i j st)

pub lent_read_count : (xs : List ℕ) (i j : ℕ) → IsStepOfItem (listed (lent xs)) i j
    → read_total (listed (lent xs)) i j ≡ 0
lent_read_count xs i j st = read_total-listed (lent xs) i j (has_step (lent xs) i j st)

pub lent_most : (xs : List ℕ) → (listed (lent xs)).max_reads ≡ 0
unfolding listed
lent_most xs = refl

pub lent_room : (xs : List ℕ) → (listed (lent xs)).max_stack ≡ 0
unfolding listed
lent_room xs = refl

pub lent_below : (xs : List ℕ) (i j : ℕ) → IsStepOfItem (listed (lent xs)) i j → i < length xs
lent_below xs i j st = let st' = has_step (lent xs) i j st in st'.item

pub lent_result : (xs : List ℕ) (i j : ℕ) → IsStepOfItem (listed (lent xs)) i j
    → number (pos (min 255 (get_or xs i 0))) ≡ solution_at (listed (lent xs)) (target_of (listed (lent xs)) i j)
lent_result xs i j st = sym (solution_at-listed (lent xs) i (lent_below xs i j st))
    ∙ ap (solution_at (listed (lent xs))) (sym (lent_targets xs i j st))

pub lent_can_fill : (xs : List ℕ) (i : ℕ) (v : Value) → i < item_total (listed (lent xs))
    → v ≡ number (pos (min 255 (get_or xs i 0))) → CanFill (listed (lent xs)) (live (Working i 0 0)) v
lent_can_fill xs i v l e =
    let one : 0 < step_total (listed (lent xs)) i = omega (arith, lent_steps xs i l) in
    let st : IsStepOfItem (listed (lent xs)) i 0 = record { item = l; step = one } in
    (one, sym (lent_read_count xs i 0 st), e ∙ lent_result xs i 0 st)

-- the words of its cells before are all 0
pub lent_first : (xs words : List ℕ) → words ≡ replicate (length xs) 0 → AreFirst (listed (lent xs)) words
lent_first xs words e = subst (AreFirst (listed (lent xs))) (sym e) (record {
  count = length-replicate {A = ℕ} (length xs) 0 ∙ sym (lent_cells xs);
  each = λ c l. let b : c < length xs = subst (λ x. c < x) (lent_cells xs) l in
      get_or-replicate (length xs) c 0 0 b ∙ sym
      (ap (λ q. first_word_of q (solved_word (listed (lent xs)) c)) (lent_kinds xs c l));
})

-- a number of one byte is a value
pub byte_value : (n : ℕ) (v : Value) → n < 2 ^ 8 → v ≡ value_of wide (pos n) → v ≡ number (pos (min 255 n))
byte_value n v small e =
    let is : value_of wide (pos n) ≡ number (pos n) = grind (arith, nat_tests) in
    let same : n ≡ min 255 n = omega arith in
    e ∙ is ∙ ap (λ x. number (pos x)) same

-- what each call of it answers
pub ruleset lent_facts = (
  lent_cells,
  lent_items,
  lent_kinds,
  lent_preds,
  lent_next_count,
  lent_steps,
  lent_targets,
  lent_read_count,
  lent_most,
  lent_room,
  lent_below,
)
