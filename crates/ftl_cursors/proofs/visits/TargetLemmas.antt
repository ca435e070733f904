-- The instances that the steps of visits compute.
use Rattle.std.proofs.Common.{◌≡◌, ◌≢◌, ℕ, ◌<◌, List, [], ◌∷◌, ◌++◌, flat_map, map, Contains, refl, ◌∙◌, ap, ap₂, subst, arith}
use Rattle.std.specs.List.{range_with_len}
use Rattle.std.proofs.lemmas.List.{map-append}
use Rattle.ftl_model.proofs.lists.Elements.{here_in, in_flat_map, in_range_from, later_in, nothing_in}
use Rattle.ftl_model.proofs.lists.Rising.{in_map}
use Rattle.ftl_model.specs.layout.AttributeGrammar.{AttributeGrammar, RuleName, for_child, for_self}
use Rattle.ftl_model.specs.layout.Path.{Path, class_at, node_at}
use Rattle.ftl_model.specs.layout.Tree.{Forest, size}
use Rattle.ftl_model.specs.layout.TreeOf.{IsTreeOf}
use Rattle.ftl_order.proofs.orders.Kids.{class_known, root_there}
use Rattle.ftl_model.proofs.layout.Numbering.{has-node_at}
use Rattle.ftl_order.specs.orders.Lawful.{IsLawful, class_of_rule}
use Rattle.ftl_schedule.specs.declared.syntax.kind.PassKind.{PassKind}
use Rattle.ftl_schedule.specs.declared.syntax.kind.PassKind.TheVariants.{InOrder}
use Rattle.ftl_items.specs.stage_items.Visits as items
use Rattle.ftl_order.specs.steps.Steps.{IsKidFor, IsStepOf, rule_at, target_of, target_of_rule}
use Rattle.ftl_order.specs.declared.steps.step.Step.{Step}
use Rattle.ftl_tree.proofs.rows.Access.{size-one}
use Rattle.ftl_visit.specs.visits.Visits.{rules_by_key}
use Rattle.ftl_visit.specs.declared.visits.visit_op.VisitOp.{VisitOp}
use Rattle.ftl_visit.specs.declared.visits.visit_op.VisitOp.TheVariants.{Begin, Rule, Visit}
use Rattle.ftl_visit.specs.passes.VisitRows.{visits_of}
use Rattle.ftl_cursors.specs.visit_steps.VisitLaws.{rules_run}
use Rattle.ftl_cursors.proofs.visit_steps.Runs.{runs_by_key}
use Rattle.ftl_cursors.specs.visits.VisitSteps.{IsOpOf, IsRuleOf, ops_at, step, steps_of_nodes, steps_of_op, steps_of_rule, steps_of_visit, turns}
use Rattle.ftl_cursors.proofs.visits.VisitLemmas.{by_key, op_of, visit_at}

-- the class of a node is one of the grammar
pub class_within : (g : AttributeGrammar) (t : Forest) → IsTreeOf g t → (n : ℕ) → n < size t
    → class_at t (node_at t n) < g.class_count
class_within g t fits n within =
    let one = size-one g t fits in
    class_known g t fits (node_at t n) (has-node_at t n (root_there g t fits) (omega arith))

map-map : {X Y Z : Type 0} (f : Y → Z) (h : X → Y) (xs : List X) → map f (map h xs) ≡ map (λ x. f (h x)) xs
map-map f h [] = refl
map-map f h (x ∷ xs) = ap (λ rest. f (h x) ∷ rest) (map-map f h xs)

-- the instances of a rule's turns
turns_are : (t : Forest) (p : Path) (w : RuleName)
    → map (target_of_rule p w) (range_with_len 0 (turns t p w)) ≡ items.steps_of_rule t p w
turns_are t p (for_self class a) = refl
turns_are t p (for_child class c a) = refl

module _ (g : AttributeGrammar) (t : Forest) (n : ℕ) where
  -- those of operations
  targets_of_ops : (ops : List VisitOp)
      → map (target_of g t) (flat_map (steps_of_op g t n) ops)
      ≡ flat_map (items.steps_of_rule t (node_at t n)) (flat_map (rules_run g) ops)
  targets_of_ops [] = refl
  targets_of_ops (Rule r ∷ ops) =
      map-append (target_of g t) (steps_of_rule g t n r) (flat_map (steps_of_op g t n) ops)
      ∙ ap₂ (λ xs ys. xs ++ ys)
      (map-map (target_of g t) (step n r) (range_with_len 0 (turns t (node_at t n) (rule_at g r)))
      ∙ turns_are t (node_at t n) (rule_at g r))
      (targets_of_ops ops)
  targets_of_ops (Begin c ∷ ops) = targets_of_ops ops
  targets_of_ops (Visit c ∷ ops) = targets_of_ops ops

module _ (g : AttributeGrammar) (law : IsLawful g) (kind : PassKind) (other : kind ≢ InOrder) (attributes : List ℕ)
    (t : Forest) (fits : IsTreeOf g t) where
  abbrev visits : List (List VisitOp)
  visits = visits_of g kind attributes

  ops_are : (n : ℕ) → n < size t → ops_at t visits n ≡ rules_by_key g (class_at t (node_at t n)) attributes
  ops_are n within =
      visit_at g kind attributes (class_at t (node_at t n)) (class_within g t fits n within)
      ∙ by_key g kind other attributes (class_at t (node_at t n))

  targets_of_visit : (n : ℕ) → n < size t
      → map (target_of g t) (steps_of_visit g t visits n) ≡ items.visit g t attributes (node_at t n)
  targets_of_visit n within =
      targets_of_ops g t n (ops_at t visits n)
      ∙ ap (λ ops. flat_map (items.steps_of_rule t (node_at t n)) (flat_map (rules_run g) ops)) (ops_are n within)
      ∙ ap (flat_map (items.steps_of_rule t (node_at t n)))
      (runs_by_key g law (class_at t (node_at t n)) (class_within g t fits n within) attributes)

  pub targets_of_nodes : (nodes : List ℕ) → ((n : ℕ) → Contains nodes n → n < size t)
      → map (target_of g t) (steps_of_nodes g t visits nodes)
      ≡ flat_map (items.visit g t attributes) (map (node_at t) nodes)
  targets_of_nodes [] within = refl
  targets_of_nodes (n ∷ nodes) within =
      map-append (target_of g t) (steps_of_visit g t visits n) (steps_of_nodes g t visits nodes)
      ∙ ap₂ (λ xs ys. xs ++ ys) (targets_of_visit n (within n (here_in n nodes)))
      (targets_of_nodes nodes (λ m there. within m (later_in n m nodes there)))

  -- ---- steps of the tree

  class_is : (class : ℕ) (w : RuleName) → IsRuleOf g class w → class_of_rule w ≡ class
  class_is class (for_self k a) h = h
  class_is class (for_child k c a) h = h.0

  kid_is : (p : Path) (w : RuleName) (k : ℕ) → k < turns t p w → IsKidFor t p w k
  kid_is p (for_self class a) k less = (let z : k ≡ 0 = omega arith in z)
  kid_is p (for_child class c a) k less = less

  step_of_op : (n : ℕ) → n < size t → (op : VisitOp) → IsOpOf g (class_at t (node_at t n)) op
      → (x : Step) → Contains (steps_of_op g t n op) x → IsStepOf g t x
  step_of_op n within (Rule r) is x there =
      let count = turns t (node_at t n) (rule_at g r) in
      let m = in_map (step n r) (range_with_len 0 count) x there in
      let less = (in_range_from 0 count m.from m.there).1 in
      subst (IsStepOf g t) m.is
      (record {
        node = within;
        rule = is.0;
        class = class_is (class_at t (node_at t n)) (rule_at g r) is.1;
        kid = kid_is (node_at t n) (rule_at g r) m.from (let z : m.from < count = omega arith in z);
      })
  step_of_op n within (Begin c) is x there = absurd (nothing_in x there)
  step_of_op n within (Visit c) is x there = absurd (nothing_in x there)

  pub steps_of_tree : (nodes : List ℕ) → ((n : ℕ) → Contains nodes n → n < size t)
      → (x : Step) → Contains (steps_of_nodes g t visits nodes) x → IsStepOf g t x
  steps_of_tree nodes within x there =
      let i = in_flat_map (steps_of_visit g t visits) nodes x there in
      let n = i.0 in
      let known = within n i.1 in
      let j = in_flat_map (steps_of_op g t n) (ops_at t visits n) x i.2 in
      step_of_op n known j.0
      (op_of g law (class_at t (node_at t n)) (class_within g t fits n known) attributes j.0
      (subst (λ ops. Contains ops j.0) (ops_are n known) j.1))
      x j.2
