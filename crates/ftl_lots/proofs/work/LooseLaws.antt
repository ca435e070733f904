-- Items that wait for none and have no steps are lawful work, and what their functions are.
use Rattle.std.proofs.Common.{◌≡◌, ℕ, ◌<◌, subst, refl, sym, ap, ◌∙◌, arith, List, [], length}
use Rattle.ftl_cells.specs.shared.Work.{cell_total, item_total, pred_total, next_total, step_total, IsStepOfItem, IsLawfulWork}
use Rattle.ftl_cells.specs.shared.State.{AreFirst}
use Rattle.ftl_cells.specs.shared.Shape.{listed, ComesNext, IsLawfulWorkShape}
use Rattle.ftl_lots.specs.table.Lots.{Wanted, lot_total}
use Rattle.ftl_lots.specs.work.Loose.{loose}
use Rattle.ftl_cells.proofs.shared.Counting.{none_of}
use Rattle.ftl_cells.proofs.shared.Shapes.{cell_total-listed, item_total-listed, pred_total-listed, next_total-listed, step_total-listed, item_below, has_step, is_lawful}

module _ (w : Wanted) where
  shape : IsLawfulWorkShape (loose w)
  shape = record {
    values = λ c l. absurd (omega arith);
    next_in_range = λ i k l b. absurd (omega arith);
    next_is_later = λ i k l b. absurd (omega arith);
    next_once = λ i k m l b c e. absurd (omega arith);
    counts = λ i l. none_of (λ p. ComesNext (loose w) p i) i (λ p b c. let n : c.at < 0 = c.below in omega arith);
    target_in_range = λ i j st. let l : j < 0 = st.step in absurd (omega arith);
    target_kind = λ i j st. let l : j < 0 = st.step in absurd (omega arith);
    target_once = λ i j k l a b e. let x : j < 0 = a.step in absurd (omega arith);
    each_target = λ c l e. absurd (omega arith);
    read_in_range = λ i j r st b. absurd (omega arith);
    readable = λ i j r st b. absurd (omega arith);
    few_reads = λ i j st. let l : j < 0 = st.step in absurd (omega arith);
    counted = λ i l. (omega arith, omega arith);
    reads_counted = λ i j st. let l : j < 0 = st.step in absurd (omega arith);
  }

  pub loose_is_lawful : IsLawfulWork (listed (loose w))
  loose_is_lawful = is_lawful (loose w) shape

  pub loose_cells : cell_total (listed (loose w)) ≡ 0
  loose_cells = cell_total-listed (loose w)

  pub loose_items : item_total (listed (loose w)) ≡ lot_total w
  loose_items = item_total-listed (loose w)

  pub loose_preds : (i : ℕ) → i < item_total (listed (loose w)) → pred_total (listed (loose w)) i ≡ 0
  loose_preds i l = pred_total-listed (loose w) i (item_below (loose w) i l)

  pub loose_next_count : (i : ℕ) → i < item_total (listed (loose w)) → next_total (listed (loose w)) i ≡ 0
  loose_next_count i l = next_total-listed (loose w) i (item_below (loose w) i l)

  pub loose_steps : (i : ℕ) → i < item_total (listed (loose w)) → step_total (listed (loose w)) i ≡ 0
  loose_steps i l = step_total-listed (loose w) i (item_below (loose w) i l)

  pub loose_no_step : (i j : ℕ) → IsStepOfItem (listed (loose w)) i j → ⊥
  loose_no_step i j st = let h = has_step (loose w) i j st in let l : j < 0 = h.step in omega arith

  pub loose_most : (listed (loose w)).max_reads ≡ w.of.max_reads
  unfolding listed
  loose_most = refl

  pub loose_room : (listed (loose w)).max_stack ≡ w.of.max_stack
  unfolding listed
  loose_room = refl

  pub loose_first : (words : List ℕ) → words ≡ [] → AreFirst (listed (loose w)) words
  loose_first words e = record {
    count = ap length e ∙ sym loose_cells;
    each = λ c l. absurd (omega (arith, subst (λ x. c < x) loose_cells l));
  }

-- what each call of it answers
pub ruleset loose_facts = (
  loose_is_lawful,
  loose_cells,
  loose_items,
  loose_preds,
  loose_next_count,
  loose_steps,
  loose_no_step,
  loose_most,
  loose_room,
)
