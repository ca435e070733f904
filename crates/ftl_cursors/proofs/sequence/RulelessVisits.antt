-- A visit of an inorder pass without rules: the class has none for itself, and none for its kids.
use Rattle.std.proofs.Common.{◌≡◌, ℕ, zero, suc, ◌+◌, ◌<◌, ◌≤◌, false, List, [], ◌∷◌, ◌++◌, None, refl, sym, ◌∙◌, ap, inl, inr, arith}
use Rattle.std.proofs.lemmas.Bool.{cases_eq}
use Rattle.ftl_model.specs.layout.AttributeGrammar.{AttributeGrammar}
use Rattle.ftl_schedule.specs.declared.syntax.kind.PassKind.TheVariants.{InOrder}
use Rattle.ftl_visit.specs.visits.Visits.{inherited_rules, locals, synthesized_rules, visit_of}
use Rattle.ftl_visit.specs.declared.visits.visit_op.VisitOp.{VisitOp}
use Rattle.ftl_visit.specs.declared.visits.visit_op.VisitOp.TheVariants.{Begin, Rule, Visit}
use Rattle.ftl_cursors.specs.classes.ClassSets.{has_rule}
use Rattle.ftl_cursors.specs.sequence.Places.{rule_first}
use Rattle.ftl_cursors.proofs.sequence.VisitShape.{AreRules, block_of, blocks_from, first_block, inherited_are, locals_are, synthesized_are, visit_is}

-- two parts without rules
parts_ruleless : (xs ys : List VisitOp) → has_rule (xs ++ ys) ≡ false → (has_rule xs ≡ false) × (has_rule ys ≡ false)
parts_ruleless [] ys none = (refl, none)
parts_ruleless (Rule r ∷ xs) ys none = absurd (cc)
parts_ruleless (Begin c ∷ xs) ys none = parts_ruleless xs ys none
parts_ruleless (Visit c ∷ xs) ys none = parts_ruleless xs ys none

-- rules, none of which is there
none_there : (ops : List VisitOp) → AreRules ops → has_rule ops ≡ false → ops ≡ []
none_there [] are none = refl
none_there (Rule r ∷ ops) are none = absurd (cc)
none_there (Begin c ∷ ops) are none = absurd are
none_there (Visit c ∷ ops) are none = absurd are

module _ (g : AttributeGrammar) (class : ℕ) (attributes : List ℕ) where
  -- the class has no rules in the pass
  pub record IsRuleless : Type 0 where
    pub local : locals g class attributes ≡ []
    pub inherited : (c : ℕ) → c < g.child_count class → inherited_rules g class c attributes ≡ []
    pub synthesized : synthesized_rules g class attributes ≡ []

  -- the blocks from a child on
  record BlocksRuleless (d count : ℕ) : Type 0 where
    inherited : (c : ℕ) → d ≤ c → c < d + count → inherited_rules g class c attributes ≡ []
    synthesized : synthesized_rules g class attributes ≡ []

  blocks_ruleless : (d count : ℕ) → has_rule (blocks_from g class attributes d count) ≡ false → BlocksRuleless d count
  blocks_ruleless d zero none =
      record {
        inherited = λ c low high. absurd (let z : ⊥ = omega (arith, low, high) in z);
        synthesized = none_there (synthesized_rules g class attributes) (synthesized_are g class attributes) none;
      }
  blocks_ruleless d (suc count) none =
      let rules = inherited_rules g class d attributes in
      let rest : has_rule (block_of g class attributes d count) ≡ false =
      sym (ap has_rule (first_block g class attributes d count)) ∙ none in
      let parts = parts_ruleless rules (Visit d ∷ blocks_from g class attributes (d + 1) count) rest in
      let later = blocks_ruleless (d + 1) count parts.1 in
      record {
        inherited = λ c low high.
            elim (cases_eq c d) [
              | inl same ↦
                  ap (λ n. inherited_rules g class n attributes) same
                  ∙ none_there rules (inherited_are g class attributes d) parts.0
              | inr other ↦ later.inherited c (omega (arith, other, low)) (omega (arith, high))
            ];
        synthesized = later.synthesized;
      }

  pub class_ruleless : has_rule (visit_of g InOrder attributes class) ≡ false → IsRuleless
  class_ruleless none =
      let count = g.child_count class in
      let parts =
      parts_ruleless (locals g class attributes) (blocks_from g class attributes 0 count)
      (sym (ap has_rule (visit_is g class attributes)) ∙ none) in
      let blocks = blocks_ruleless 0 count parts.1 in
      record {
        local = none_there (locals g class attributes) (locals_are g class attributes) parts.0;
        inherited = λ c declared. blocks.inherited c (omega arith) (omega (arith, declared));
        synthesized = blocks.synthesized;
      }

-- where no rule comes before the visit of a kid, there are none for it
pub none_before_visit : (rules ops : List VisitOp) (c : ℕ) → AreRules rules → rule_first (rules ++ Visit c ∷ ops) ≡ None
    → rules ≡ []
none_before_visit [] ops c are first = refl
none_before_visit (Rule r ∷ rules) ops c are first = absurd (let z : ⊥ = cc in z)
none_before_visit (Begin d ∷ rules) ops c are first = absurd are
none_before_visit (Visit d ∷ rules) ops c are first = absurd are
