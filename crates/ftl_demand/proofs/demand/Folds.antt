-- The parts of the rule of a step that folds.
use Rattle.std.proofs.Common.{◌≡◌, ℕ, ◌<◌, ◌≤◌, ◌+◌, List, Option, None, Some, true, map, refl, sym, ◌∙◌, ap, subst, arith, add-one, get_or}
use Rattle.std.specs.Option.{IfNone, IfSome}
use Rattle.ftl_deps.specs.parts.RuleParts.{parts_named, read_meant}
use Rattle.ftl_deps.specs.reads.Meant.{meant}
use Rattle.ftl_deps.specs.declared.parts.part_read.PartRead.{PartRead}
use Rattle.ftl_meaning.specs.faults.FirstFault.{first_fault}
use Rattle.ftl_meaning.specs.grammars.Meaning.{sight}
use Rattle.ftl_model.specs.layout.AttributeGrammar.{Parts, Read, fold_over, from_part, reads_in, seen_by, with_part}
use Rattle.ftl_model.specs.layout.TreeOf.{IsTreeOf}
use Rattle.ftl_model.specs.layout.Values.{Value, overflow}
use Rattle.ftl_order.specs.declared.steps.step.Step.{Step}
use Rattle.ftl_order.specs.orders.Lawful.{EachMay, IsLawful}
use Rattle.ftl_order.specs.orders.Reads.{reads_of}
use Rattle.ftl_order.specs.steps.Steps.{IsStepOf, rule_at, target_of}
use Rattle.ftl_step_value.proofs.cells.SeenReads.{start_there, step_there}
use Rattle.ftl_step_value.specs.cells.ReadCells.{filled_cell}
use Rattle.ftl_step_value.specs.cells.Seen.{IsThere}
use Rattle.ftl_tree.specs.trees.CheckedTree.{CheckedTree}
use Rattle.ftl_visit.specs.rule_values.PartValues.{IsRuleOf, has_part, meant_rule, part_value}
use Rattle.ftl_visit.specs.step_reads.StepReads.{AreOfChildren, children_in, kids_in}
use Rattle.ftl_demand.specs.declared.demand.waiting.NodeAttr.{NodeAttr}
use Rattle.ftl_demand.specs.declared.demand.waiting.Waiting.{Waiting}
use Rattle.ftl_demand.specs.demand.Frames.{IsWaiting, fold_over_first}
use Rattle.ftl_demand.specs.demand.Outcomes.{IsLacking, instances_seen, value_at}
use Rattle.ftl_demand.specs.demand.Words.{IsSolution}
use Rattle.ftl_demand.proofs.demand.StepValues.{ByParts, all_there, has_it, lacks, reads_are, rule_is, start_read, step_read, value_is}

module _ (t : CheckedTree) (law : IsLawful (meant t.checked)) (fits : IsTreeOf (meant t.checked) t.tree)
    (none : first_fault t.checked.grammar ≡ None) (x : Step) (is : IsStepOf (meant t.checked) t.tree x)
    (child : ℕ) (start each : List PartRead)
    (are : parts_named (meant t.checked) (rule_at (meant t.checked) x.rule)
    ≡ fold_over child (map read_meant start) (map read_meant each)) where
  abbrev parts : Parts
  parts = fold_over child (map read_meant start) (map read_meant each)

  abbrev kids : ℕ → ℕ
  kids = kids_in t x.node

  pub fold_rule : IsRuleOf t.checked x.rule
  fold_rule = rule_is t law fits none x is parts are

  pub fold_has_start : has_part (meant_rule t.checked x.rule).parts from_part ≡ true
  fold_has_start = has_it t law fits none x is parts are from_part refl

  pub fold_has_step : has_part (meant_rule t.checked x.rule).parts with_part ≡ true
  fold_has_step = has_it t law fits none x is parts are with_part refl

  pub start_reads : reads_in (meant_rule t.checked x.rule).parts from_part ≡ map read_meant start
  start_reads = reads_are t law fits none x is parts are from_part (map read_meant start) refl

  pub each_reads : reads_in (meant_rule t.checked x.rule).parts with_part ≡ map read_meant each
  each_reads = reads_are t law fits none x is parts are with_part (map read_meant each) refl

  module _ (may : AreOfChildren (children_in t x.node) parts) where
    pub start_reads_there : EachMay (IsThere t x.node x.kid) (map read_meant start)
    start_reads_there =
        start_there t x.node x.kid (map read_meant start) (map read_meant each) (kids child) may.1
        (all_there t law fits none x is parts are)

    pub each_reads_there : (n : ℕ) → n < kids child → EachMay (IsThere t x.node n) (map read_meant each)
    each_reads_there n below =
        step_there t x.node x.kid (map read_meant start) (map read_meant each) (kids child) may.2
        (all_there t law fits none x is parts are) n (omega arith) (omega (arith, below))

  pub start_lacks : (words : List ℕ) (y : NodeAttr)
      → IsLacking t words (instances_seen t x.node (seen_by kids x.kid (map read_meant start))) y
      → IsLacking t words (reads_of (meant t.checked) t.tree (target_of (meant t.checked) t.tree x)) y
  start_lacks words y =
      lacks t law fits none x is parts are (seen_by kids x.kid (map read_meant start))
      (start_read kids x.kid child (map read_meant start) (map read_meant each)) words y

  pub each_lacks : (n : ℕ) → n < kids child → (words : List ℕ) (y : NodeAttr)
      → IsLacking t words (instances_seen t x.node (seen_by kids n (map read_meant each))) y
      → IsLacking t words (reads_of (meant t.checked) t.tree (target_of (meant t.checked) t.tree x)) y
  each_lacks n below words y =
      lacks t law fits none x is parts are (seen_by kids n (map read_meant each))
      (step_read kids x.kid child (map read_meant start) (map read_meant each) n below) words y

  -- once all kids are taken the fold gives the value of the step
  pub fold_is : ByParts → (values : List Value) → IsSolution (meant t.checked) t.tree values → (n : ℕ) → n ≡ kids child
      → fold_over_first t values x n ≡ get_or values (filled_cell (meant t.checked) t.tree x) overflow
  fold_is by_parts values solved n all =
      ap (fold_over_first t values x) all ∙ sym (value_is t law fits none x is parts are by_parts values solved)

-- one more kid
pub fold_more : (t : CheckedTree) (values : List Value) (x : Step) (n : ℕ) (so_far v : Value)
    → so_far ≡ fold_over_first t values x n
    → v ≡ part_value t.checked x.rule with_part (sight (kids_in t x.node) n (value_at t values x.node) so_far)
    → v ≡ fold_over_first t values x (n + 1)
fold_more t values x n so_far v before is =
    is
    ∙ ap
    (λ (w : Value).
    part_value t.checked x.rule with_part (sight (kids_in t x.node) n (value_at t values x.node) w)) before
    ∙ sym (ap (fold_over_first t values x) (add-one n))

-- a fold that has taken some kids waits for the next
pub fold_waits : (t : CheckedTree) (w now : Waiting) (child : ℕ) (start each : List Read)
    → parts_named (meant t.checked) (rule_at (meant t.checked) w.step.rule) ≡ fold_over child start each
    → IsWaiting t w → now.step ≡ w.step → now.cell ≡ w.cell
    → (kid : ℕ) (v : Value) → now.taken ≡ kid → now.so_far ≡ Some v
    → ((values : List Value) → IsSolution (meant t.checked) t.tree values → v ≡ fold_over_first t values w.step kid)
    → kid ≤ kids_in t w.step.node child → IsWaiting t now
fold_waits t w now child start each is before same_step same_cell kid v taken held so_far few = record {
  step = subst (IsStepOf (meant t.checked) t.tree) (sym same_step) before.step;
  cell = same_cell ∙ before.cell ∙ ap (filled_cell (meant t.checked) t.tree) (sym same_step);
  begun = subst (λ (o : Option Value). IfNone o (now.taken ≡ 0)) (sym held) tt;
  so_far_is =
      subst
      (λ (o : Option Value).
      IfSome o
      (λ u.
      (values : List Value) → IsSolution (meant t.checked) t.tree values
      → u ≡ fold_over_first t values now.step now.taken))
      (sym held)
      (λ values solved.
      so_far values solved
      ∙ ap (λ (x : Step). fold_over_first t values x kid) (sym same_step)
      ∙ ap (fold_over_first t values now.step) (sym taken));
  few = λ other s e named.
      let here : fold_over child start each ≡ fold_over other s e =
      sym is
      ∙ ap (λ (x : Step). parts_named (meant t.checked) (rule_at (meant t.checked) x.rule)) (sym same_step)
      ∙ named in
      let one : child ≡ other = cc in
      subst (λ (n : ℕ). n ≤ kids_in t now.step.node other) (sym taken)
      (subst (λ (x : Step). kid ≤ kids_in t x.node other) (sym same_step)
      (subst (λ (d : ℕ). kid ≤ kids_in t w.step.node d) one few));
}
