-- Where a step of a tree runs: the turn and the rule of what it computes.
use Rattle.std.proofs.Common.{◌≡◌, ◌≢◌, ℕ, sym, ◌∙◌, ap, inl, inr, get_or}
use Rattle.ftl_model.specs.layout.AttributeGrammar.{AttributeGrammar, RuleName, for_child, for_self, input}
use Rattle.ftl_model.specs.layout.Path.{Path, class_at, down, node_at}
use Rattle.ftl_model.specs.layout.Solves.{Instance, IsInstance, instance_of, rule_kid, rule_name, rule_node}
use Rattle.ftl_model.specs.layout.Table.{instance_number, instances}
use Rattle.ftl_model.specs.layout.Tree.{Forest}
use Rattle.ftl_model.specs.layout.TreeOf.{IsTreeOf}
use Rattle.ftl_order.specs.declared.steps.step.Step.{Step}
use Rattle.ftl_order.specs.orders.Lawful.{IsLawful, IsOwnSort, IsRule, class_of_rule}
use Rattle.ftl_order.specs.orders.LegalOrder.{IsStep, turn_of}
use Rattle.ftl_order.specs.orders.ReadPairs.{rule_of_step}
use Rattle.ftl_order.specs.steps.Steps.{IsKidFor, IsStepOf, rule_at, target_of, target_of_rule}
use Rattle.ftl_order.proofs.orders.Instances.{instance_at_number}
use Rattle.ftl_step_value.proofs.cells.StepRules.{step_rule, target_there}

-- two instances of a tree by their numbers
pub same_instance : (g : AttributeGrammar) (t : Forest) (i j : Instance) → IsInstance g t i → IsInstance g t j
    → instance_number g t i ≡ instance_number g t j → i ≡ j
same_instance g t i j vi vj e =
    sym (instance_at_number g t i.node i.attribute i vi.0 vi.1)
    ∙ ap (λ n. get_or (instances g t) n i) e
    ∙ instance_at_number g t j.node j.attribute i vj.0 vj.1

-- what an instance is by its turn
record IsTurn (g : AttributeGrammar) (t : Forest) (i : Instance) (p : Path) (w : RuleName) (kid : ℕ) : Type 0 where
  pub computed : g.sort i.attribute ≢ input
  pub rule : rule_of_step g t i ≡ w
  pub visit : (turn_of g i).visit ≡ p
  pub kid_is : (turn_of g i).kid ≡ kid

module _ (g : AttributeGrammar) (t : Forest) where
  own_turn : (p : Path) (class a kid : ℕ) → IsOwnSort (g.sort a) → class ≡ class_at t p → kid ≡ 0
      → IsTurn g t (instance_of p a) p (for_self class a) kid
  own_turn p class a kid (inl e) of none =
      record {
        computed = λ f. cc (e, f);
        rule = ap (λ s. rule_name t s p a) e ∙ ap (λ c. for_self c a) (sym of);
        visit = ap (λ s. rule_node s p) e;
        kid_is = ap (λ s. rule_kid s p) e ∙ sym none;
      }
  own_turn p class a kid (inr e) of none =
      record {
        computed = λ f. cc (e, f);
        rule = ap (λ s. rule_name t s p a) e ∙ ap (λ c. for_self c a) (sym of);
        visit = ap (λ s. rule_node s p) e;
        kid_is = ap (λ s. rule_kid s p) e ∙ sym none;
      }

  turn_by_name : (w : RuleName) (p : Path) (kid : ℕ) → IsRule g w → class_of_rule w ≡ class_at t p → IsKidFor t p w kid
      → IsTurn g t (target_of_rule p w kid) p w kid
  turn_by_name (for_self class a) p kid rule of none = own_turn p class a kid rule.2 of none
  turn_by_name (for_child class c a) p kid rule of below =
      let e = rule.3 in
      record {
        computed = λ f. cc (e, f);
        rule = ap (λ s. rule_name t s (down c kid p) a) e ∙ ap (λ k. for_child k c a) (sym of);
        visit = ap (λ s. rule_node s (down c kid p)) e;
        kid_is = ap (λ s. rule_kid s (down c kid p)) e;
      }

module _ (g : AttributeGrammar) (law : IsLawful g) (t : Forest) (fits : IsTreeOf g t) (x : Step) (is : IsStepOf g t x) where
  its_turn : IsTurn g t (target_of g t x) (node_at t x.node) (rule_at g x.rule) x.kid
  its_turn =
      turn_by_name g t (rule_at g x.rule) (node_at t x.node) x.kid (step_rule g law t fits x is) is.class is.kid

  pub target_step : IsStep g t (target_of g t x)
  target_step = (target_there g law t fits x is, its_turn.computed)

  pub target_rule : rule_of_step g t (target_of g t x) ≡ rule_at g x.rule
  target_rule = its_turn.rule

  pub target_visit : (turn_of g (target_of g t x)).visit ≡ node_at t x.node
  target_visit = its_turn.visit

  pub target_kid : (turn_of g (target_of g t x)).kid ≡ x.kid
  target_kid = its_turn.kid_is
