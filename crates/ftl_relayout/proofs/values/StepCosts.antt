-- What a step costs, by the parts of its rule.
use Rattle.std.proofs.Common.{◌≡◌, ℕ, ◌≤◌, sym, ap, ◌∙◌, arith, inl, inr}
use Rattle.ftl_deps.specs.parts.RuleParts.{parts_named}
use Rattle.ftl_model.specs.layout.AttributeGrammar.{AttributeGrammar, Parts, RuleName, Sort, first_then, fold_over, for_child, for_self, plain}
use Rattle.ftl_model.specs.layout.Path.{Path, class_at, down, kids_at, node_at}
use Rattle.ftl_model.specs.layout.Solves.{rule_node, rule_of}
use Rattle.ftl_model.specs.layout.Tree.{Forest}
use Rattle.ftl_model.specs.layout.TreeOf.{IsTreeOf}
use Rattle.ftl_order.specs.declared.steps.step.Step.{Step}
use Rattle.ftl_order.specs.orders.Lawful.{IsLawful, IsOwnSort, IsRule, class_of_rule}
use Rattle.ftl_order.specs.steps.Steps.{IsKidFor, IsStepOf, rule_at, target_of, target_of_rule}
use Rattle.ftl_step_value.proofs.cells.StepRules.{step_rule}
use Rattle.ftl_relayout.specs.laws.TreeNets.{cost_at, parts_cost}

module _ (g : AttributeGrammar) (t : Forest) where
  own_cost : (sort : Sort) (p : Path) (a : ℕ) → IsOwnSort sort
      → parts_cost (rule_of g t sort p a).parts (kids_at t (rule_node sort p))
      ≡ parts_cost (g.self_rule (class_at t p) a).parts (kids_at t p)
  own_cost sort p a (inl e) = ap (λ s. parts_cost (rule_of g t s p a).parts (kids_at t (rule_node s p))) e
  own_cost sort p a (inr e) = ap (λ s. parts_cost (rule_of g t s p a).parts (kids_at t (rule_node s p))) e

  cost_by_name : (w : RuleName) (p : Path) (k : ℕ) → IsRule g w → class_of_rule w ≡ class_at t p → IsKidFor t p w k
      → cost_at g t (target_of_rule p w k) ≡ parts_cost (parts_named g w) (kids_at t p)
  cost_by_name (for_self class a) p k rule of kid =
      own_cost (g.sort a) p a rule.2
      ∙ ap (λ n. parts_cost (g.self_rule n a).parts (kids_at t p)) (sym of)
  cost_by_name (for_child class c a) p k rule of kid =
      ap (λ s. parts_cost (rule_of g t s (down c k p) a).parts (kids_at t (rule_node s (down c k p)))) rule.3
      ∙ ap (λ n. parts_cost (g.child_rule n c a).parts (kids_at t p)) (sym of)

  pub step_cost : (law : IsLawful g) (fits : IsTreeOf g t) (x : Step) → IsStepOf g t x
      → cost_at g t (target_of g t x) ≡ parts_cost (parts_named g (rule_at g x.rule)) (kids_at t (node_at t x.node))
  step_cost law fits x is =
      cost_by_name (rule_at g x.rule) (node_at t x.node) x.kid (step_rule g law t fits x is) is.class is.kid

-- a rule costs something
pub cost_some : (parts : Parts) (kids : ℕ → ℕ) → 1 ≤ parts_cost parts kids
cost_some (plain reads) kids = omega arith
cost_some (first_then first later) kids = omega arith
cost_some (fold_over c start step) kids = omega arith
