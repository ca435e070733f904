-- The rule of a step: what it computes, and what it reads.
use Rattle.std.proofs.Common.{◌≡◌, ℕ, List, refl, sym, ◌∙◌, ap, subst, inl, inr, map, Contains}
use Rattle.std.proofs.lemmas.List.Elements.{Contains-get_or}
use Rattle.ftl_model.proofs.lists.Rising.{map_has}
use Rattle.ftl_model.specs.layout.AttributeGrammar.{AttributeGrammar, Occurrence, RuleName, Sort, for_child, for_self, read_occurrences}
use Rattle.ftl_model.specs.layout.Path.{Has, Path, class_at, down, kids_at, node_at}
use Rattle.ftl_model.specs.layout.Solves.{IsInstance, seen_from}
use Rattle.ftl_model.specs.layout.Tree.{Forest}
use Rattle.ftl_model.specs.layout.TreeOf.{IsTreeOf}
use Rattle.ftl_order.specs.orders.Lawful.{IsLawful, IsOwnSort, IsRule, OfClass, class_of_rule}
use Rattle.ftl_order.specs.orders.Reads.{equation_reads, reads_of, rule_reads}
use Rattle.ftl_order.proofs.orders.TreeEquations.{inside_by, kid_instance}
use Rattle.ftl_deps.specs.parts.RuleParts.{parts_named}
use Rattle.ftl_step_value.proofs.limits.reads.Entries.{there}
use Rattle.ftl_order.specs.steps.Steps.{IsKidFor, IsStepOf, rule_at, target_of, target_of_rule}
use Rattle.ftl_order.specs.declared.steps.step.Step.{Step}

-- what a rule of this name reads that runs at this node
abbrev pub seen_at : AttributeGrammar → Forest → RuleName → Path → (number : ℕ) → List Occurrence
seen_at g t w p k = read_occurrences (parts_named g w) (kids_at t p) k

module _ (g : AttributeGrammar) (law : IsLawful g) (t : Forest) (fits : IsTreeOf g t) where
  own_reads : (sort : Sort) (p : Path) (a : ℕ) → IsOwnSort sort
      → equation_reads g t sort p a ≡ rule_reads t (g.self_rule (class_at t p) a) p 0
  own_reads sort p a (inl e) = ap (λ s. equation_reads g t s p a) e
  own_reads sort p a (inr e) = ap (λ s. equation_reads g t s p a) e

  -- what the instance reads that a rule gives its value to
  reads_by_name : (w : RuleName) (p : Path) (k : ℕ) → IsRule g w → class_of_rule w ≡ class_at t p
      → IsKidFor t p w k
      → reads_of g t (target_of_rule p w k) ≡ map (seen_from p) (seen_at g t w p k)
  reads_by_name (for_self class a) p k rule of kid =
      own_reads (g.sort a) p a rule.2
      ∙ ap (λ n. rule_reads t (g.self_rule n a) p 0) (sym of)
      ∙ ap (λ n. rule_reads t (g.self_rule class a) p n) (sym kid)
  reads_by_name (for_child class c a) p k rule of kid =
      ap (λ s. equation_reads g t s (down c k p) a) rule.3
      ∙ ap (λ n. rule_reads t (g.child_rule n c a) p k) (sym of)

  -- that instance is there
  target_by_name : (w : RuleName) (p : Path) (k : ℕ) → Has t p → IsRule g w → class_of_rule w ≡ class_at t p
      → IsKidFor t p w k → IsInstance g t (target_of_rule p w k)
  target_by_name (for_self class a) p k has rule of kid = (has, subst (λ n. OfClass g n a) of rule.1)
  target_by_name (for_child class c a) p k has rule of kid =
      kid_instance g law t fits c k a p has kid
      (subst (λ n. Contains (g.shared (g.child_interface n c)) a) of rule.2)

  module _ (x : Step) (is : IsStepOf g t x) where
    abbrev p : Path
    p = node_at t x.node

    abbrev w : RuleName
    w = rule_at g x.rule

    pub step_rule : IsRule g w
    step_rule = law.rules_are w (Contains-get_or g.rules x.rule (for_self 0 0) is.rule)

    pub step_node : Has t p
    step_node = there g law t fits x.node is.node

    -- what a step computes is there
    pub target_there : IsInstance g t (target_of g t x)
    target_there = target_by_name w p x.kid step_node step_rule is.class is.kid

    -- a step reads what its rule reads at its node
    pub step_reads : reads_of g t (target_of g t x) ≡ map (seen_from p) (seen_at g t w p x.kid)
    step_reads = reads_by_name w p x.kid step_rule is.class is.kid

    -- and that is there
    pub reads_there : (o : Occurrence) → Contains (seen_at g t w p x.kid) o → IsInstance g t (seen_from p o)
    reads_there o in_it =
        let i = target_of g t x in
        let valid = target_there in
        inside_by g law t fits (g.sort i.attribute) i.node i.attribute refl valid.0 valid.1 (seen_from p o)
        (subst (λ js. Contains js (seen_from p o)) (sym step_reads) (map_has (seen_from p) (seen_at g t w p x.kid) o in_it))
