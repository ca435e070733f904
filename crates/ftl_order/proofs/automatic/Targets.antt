-- The attributes that rules of a lawful grammar define are computed.
use Rattle.std.proofs.Common.{◌≢◌, ⊎_elim, arith}
use Rattle.std.proofs.lemmas.List.Elements.{Contains-append_cases}
use Rattle.ftl_model.specs.layout.AttributeGrammar.{AttributeGrammar, RuleName, Sort, for_child, for_self, inherited, input}
use Rattle.ftl_model.specs.layout.AttributeGrammar.{local, synthesized}
use Rattle.ftl_model.specs.layout.Solves.{rule_named}
use Rattle.ftl_order.specs.orders.Lawful.{IsLawful, IsOwnSort, IsRule, class_owner, interface_owner}
use Rattle.ftl_order.specs.orders.Ordered.{visit_place}
use Rattle.ftl_order.specs.orders.Pairs.{IsPair, Pair}
use Rattle.ftl_order.proofs.orders.Owners.{attribute_known}
use Rattle.ftl_order.proofs.dependencies.ReadsThere.{of_parts}
use Rattle.ftl_order.proofs.dependencies.Writers.{writers_are_rules}
use Rattle.ftl_order.specs.automatic.Fitting.{IsComputed, defined_by_reader, written}

own_computed : (sort : Sort) → IsOwnSort sort → sort ≢ input
own_computed input h e = ⊎_elim (λ f. let z : ⊥ = grind (arith, f) in z) (λ f. let z : ⊥ = grind (arith, f) in z) h
own_computed inherited h e = let z : ⊥ = grind (arith, e) in z
own_computed synthesized h e = let z : ⊥ = grind (arith, e) in z
own_computed local h e = let z : ⊥ = grind (arith, e) in z

module _ (g : AttributeGrammar) (law : IsLawful g) where
  pub target_computed : (w : RuleName) → IsRule g w → IsComputed g (visit_place g w).attribute
  target_computed (for_self k a) rule = (
    ⊎_elim
        (λ shared. attribute_known g law (interface_owner (g.interface k)) a (law.interfaces_known k rule.0, shared))
        (λ own. attribute_known g law (class_owner k) a (rule.0, own))
        (Contains-append_cases (g.shared (g.interface k)) (g.private k) a rule.1),
    own_computed (g.sort a) rule.2,
  )
  target_computed (for_child k c a) rule = (
    attribute_known g law (interface_owner (g.child_interface k c)) a
        (law.children_known k c rule.0 rule.1, rule.2),
    (λ e. let f = rule.3 in let z : ⊥ = grind (arith, e, f) in z),
  )

  pub reader_computed : (pair : Pair) → IsPair g pair → IsComputed g (defined_by_reader g pair)
  reader_computed pair is = target_computed pair.reader is.0.0

  pub writer_computed : (pair : Pair) → IsPair g pair → IsComputed g (written g pair)
  writer_computed pair is =
      target_computed pair.writer
      (writers_are_rules g law pair.reader pair.read is.0.0
      (of_parts (rule_named g pair.reader).parts pair.read pair.part is.0.1) pair.writer (pair.runs_at, is.1))
