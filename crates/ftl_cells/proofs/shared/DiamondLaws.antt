-- The diamond is lawful work.
use Rattle.std.proofs.Common.{◌≡◌, ℕ, zero, suc, ◌+◌, ◌^◌, ◌<◌, ◌≤◌, inl, inr, subst, refl, sym, arith, rules, List, [], ◌∷◌, get_or}
use Rattle.ftl_model.specs.layout.Values.{number, IsValue, word_of_value}
use Rattle.ftl_cells.specs.shared.Count.{Counts, at_zero, counts_it, skips_it}
use Rattle.ftl_cells.specs.shared.Work.{cell_total, kind_at, solution_at, item_total, pred_total, next_total, next_at, step_total, target_of, reads_of_step, read_total, read_of, solved_word, IsStepOfItem, IsNext, IsReadable, IsTargeted, IsLawfulWork}
use Rattle.ftl_cells.specs.shared.State.{AreFirst, first_word_of}
use Rattle.std.specs.Prelude.{pos}
use Rattle.ftl_cells.specs.shared.Diamond.{diamond}
use Rattle.ftl_cells.specs.declared.shared.kind.CellKind.TheVariants.{Target}

-- what holds of each number below a bound
below1 : (P : ℕ → Type 0) → P 0 → (i : ℕ) → i < 1 → P i
below1 P a zero l = a
below1 P a (suc i) l = absurd (omega arith)

below2 : (P : ℕ → Type 0) → P 0 → P 1 → (i : ℕ) → i < 2 → P i
below2 P a b zero l = a
below2 P a b (suc i) l = below1 (λ x. P (suc x)) b i (omega arith)

below4 : (P : ℕ → Type 0) → P 0 → P 1 → P 2 → P 3 → (i : ℕ) → i < 4 → P i
below4 P a b c d zero l = a
below4 P a b c d (suc zero) l = b
below4 P a b c d (suc (suc i)) l = below2 (λ x. P (suc (suc x))) c d i (omega arith)

below5 : (P : ℕ → Type 0) → P 0 → P 1 → P 2 → P 3 → P 4 → (i : ℕ) → i < 5 → P i
below5 P a b c d e zero l = a
below5 P a b c d e (suc i) l = below4 (λ x. P (suc x)) b c d e i (omega arith)

-- each item has one step
one_step : (i : ℕ) → i < item_total diamond → step_total diamond i ≡ 1
unfolding item_total step_total
one_step i l = below4 (λ x. step_total diamond x ≡ 1) refl refl refl refl i l

pub only_step : (i j : ℕ) → IsStepOfItem diamond i j → j ≡ 0
only_step i j st = let e = one_step i st.item in let b = st.step in omega arith

-- what holds of the one step of each item holds of each step
each_step : (P : ℕ → ℕ → Type 0) → P 0 0 → P 1 0 → P 2 0 → P 3 0 → (i j : ℕ) → IsStepOfItem diamond i j → P i j
unfolding item_total
each_step P a b c d i j st = subst (P i) (sym (only_step i j st)) (below4 (λ x. P x 0) a b c d i st.item)

target_is : (i j : ℕ) → IsStepOfItem diamond i j → target_of diamond i j ≡ i + 1
unfolding target_of
target_is = each_step (λ i j. target_of diamond i j ≡ i + 1) refl refl refl refl

next_of : (p at i : ℕ) → p < 4 → at < next_total diamond p → next_at diamond p at ≡ i → IsNext diamond p i
unfolding item_total
next_of p at i l b e = record { known = l; at = at; below = b; is = e }

step_of : (i : ℕ) → i < 4 → IsStepOfItem diamond i 0
unfolding item_total step_total
step_of i l = below4 (λ x. IsStepOfItem diamond x 0) (record { item = omega arith; step = omega arith })
    (record { item = omega arith; step = omega arith }) (record { item = omega arith; step = omega arith })
    (record { item = omega arith; step = omega arith }) i l

handed : (p at i c : ℕ) → p < 4 → at < next_total diamond p → next_at diamond p at ≡ i → target_of diamond p 0 ≡ c
    → IsReadable diamond i 0 c
handed p at i c l b e t = inr
    (inr (record { item = p; step = 0; next = next_of p at i l b e; known = step_of p l; is = t }))

not_next : (p i : ℕ) → ((at : ℕ) → at < next_total diamond p → next_at diamond p at ≡ i → ⊥) → IsNext diamond p i → ⊥
not_next p i f n = f n.at n.below n.is

preds : (i : ℕ) → i < item_total diamond → Counts (λ p. IsNext diamond p i) i (pred_total diamond i)
unfolding item_total pred_total next_total next_at
preds i l = below4 (λ x. Counts (λ p. IsNext diamond p x) x (pred_total diamond x))
    at_zero
    (counts_it (next_of 0 0 1 (omega arith) (omega arith) refl) at_zero)
    (skips_it (not_next 1 2 (below1 (λ at. next_at diamond 1 at ≡ 2 → ⊥) (λ e. omega arith)))
    (counts_it (next_of 0 1 2 (omega arith) (omega arith) refl) at_zero))
    (counts_it (next_of 2 0 3 (omega arith) (omega arith) refl)
    (counts_it (next_of 1 0 3 (omega arith) (omega arith) refl)
    (skips_it (not_next 0 3 (below2 (λ at. next_at diamond 0 at ≡ 3 → ⊥) (λ e. omega arith) (λ e. omega arith)))
    at_zero)))
    i l

-- what holds of each place of each list of next items
each_next : (P : ℕ → ℕ → Type 0) → P 0 0 → P 0 1 → P 1 0 → P 2 0 → (i k : ℕ) → i < item_total diamond
    → k < next_total diamond i → P i k
unfolding item_total next_total
each_next P a b c d i k l = below4 (λ x. (y : ℕ) → y < next_total diamond x → P x y)
    (below2 (P 0) a b) (below1 (P 1) c) (below1 (P 2) d) (λ y h. absurd (omega arith)) i l k

each_read : (P : ℕ → ℕ → ℕ → Type 0) → P 0 0 0 → P 1 0 0 → P 2 0 0 → P 3 0 0 → P 3 0 1 → (i j r : ℕ)
    → IsStepOfItem diamond i j → r < read_total diamond i j → P i j r
unfolding reads_of_step
each_read P a b c d e i j r st = each_step (λ x y. (z : ℕ) → z < read_total diamond x y → P x y z)
    (below1 (P 0 0) a) (below1 (P 1 0) b) (below1 (P 2 0) c) (below2 (P 3 0) d e) i j st r

pub diamond_is_lawful : IsLawfulWork diamond
unfolding cell_total kind_at solution_at item_total pred_total next_total next_at step_total target_of reads_of_step
diamond_is_lawful = record {
  solved = refl;
  values = λ c l. below5 (λ x. IsValue (solution_at diamond x)) (search rules) (search rules) (search rules)
      (search rules) (search rules) c l;
  next_in_range = each_next (λ i k. next_at diamond i k < item_total diamond) (omega arith) (omega arith)
      (omega arith) (omega arith);
  next_is_later = each_next (λ i k. i < next_at diamond i k) (omega arith) (omega arith) (omega arith) (omega arith);
  next_once = λ i k l a b c e. each_next
      (λ x y. (z : ℕ) → z < next_total diamond x → next_at diamond x y ≡ next_at diamond x z → y ≡ z)
      (below2 (λ z. 1 ≡ next_at diamond 0 z → 0 ≡ z) (λ e. refl) (λ e. absurd (omega arith)))
      (below2 (λ z. 2 ≡ next_at diamond 0 z → 1 ≡ z) (λ e. absurd (omega arith)) (λ e. refl))
      (below1 (λ z. 3 ≡ next_at diamond 1 z → 0 ≡ z) (λ e. refl))
      (below1 (λ z. 3 ≡ next_at diamond 2 z → 0 ≡ z) (λ e. refl)) i k a b l c e;
  preds = preds;
  target_in_range = each_step (λ i j. target_of diamond i j < cell_total diamond) (omega arith) (omega arith)
      (omega arith) (omega arith);
  target_kind = each_step (λ i j. kind_at diamond (target_of diamond i j) ≡ Target) refl refl refl refl;
  target_once = λ i j k l a b e. let x = target_is i j a in let y = target_is k l b in let u = only_step i j a in
      let w = only_step k l b in (omega arith, omega arith);
  each_target = λ c l. below5 (λ x. kind_at diamond x ≡ Target → IsTargeted diamond x) (λ e. absurd (cc))
      (λ e. record { item = 0; step = 0; known = step_of 0 (omega arith); is = refl })
      (λ e. record { item = 1; step = 0; known = step_of 1 (omega arith); is = refl })
      (λ e. record { item = 2; step = 0; known = step_of 2 (omega arith); is = refl })
      (λ e. record { item = 3; step = 0; known = step_of 3 (omega arith); is = refl }) c l;
  read_in_range = each_read (λ i j r. read_of diamond i j r < cell_total diamond) (omega arith) (omega arith)
      (omega arith) (omega arith) (omega arith);
  readable = each_read (λ i j r. IsReadable diamond i j (read_of diamond i j r)) (inl refl)
      (handed 0 0 1 1 (omega arith) (omega arith) refl refl) (handed 0 1 2 1 (omega arith) (omega arith) refl refl)
      (handed 1 0 3 2 (omega arith) (omega arith) refl refl) (handed 2 0 3 3 (omega arith) (omega arith) refl refl);
  few_reads = each_step (λ i j. read_total diamond i j ≤ 2) (omega arith) (omega arith) (omega arith) (omega arith);
  counted = λ i l. below4 (λ x. (next_total diamond x < 2 ^ 32) × (step_total diamond x < 2 ^ 32))
      (omega arith, omega arith) (omega arith, omega arith) (omega arith, omega arith) (omega arith, omega arith) i l;
  reads_counted = each_step (λ i j. read_total diamond i j < 2 ^ 32) (omega arith) (omega arith) (omega arith)
      (omega arith);
}

-- the words of its cells before: 7 in the first, and the others empty
pub diamond_first : (words : List ℕ) → words ≡ word_of_value (number (pos 7)) ∷ 0 ∷ 0 ∷ 0 ∷ 0 ∷ []
    → AreFirst diamond words
unfolding cell_total kind_at solution_at
diamond_first words e = let P : List ℕ → Type 0 = AreFirst diamond in subst P (sym e) (record {
  count = refl;
  each = below5
      (λ c. get_or (word_of_value (number (pos 7)) ∷ 0 ∷ 0 ∷ 0 ∷ 0 ∷ []) c 0 ≡ first_word_of (kind_at diamond c)
      (solved_word diamond c)) refl refl refl refl refl;
})
