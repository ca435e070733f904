-- Two rules are the same where their names are.
use Rattle.std.proofs.Common.{◌≡◌, ℕ, ◌==◌, ◌&&◌, Bool, true, Option, None, Some, refl, sym, ◌∙◌, ap, subst}
use Rattle.std.proofs.Common.{eqb-true, eq-eqb}
use Rattle.std.proofs.lemmas.Bool.{and_from, and_parts}
use Rattle.std.specs.Option.{option_eq}
use Rattle.ftl_deps.specs.reads.Products.{name_of_child, name_of_info}
use Rattle.ftl_meaning.specs.declared.faults.info.RuleInfo.{RuleInfo}
use Rattle.ftl_model.specs.layout.AttributeGrammar.{RuleName, for_child, for_self}
use Rattle.ftl_order.specs.orders.Lawful.{class_of_rule}
use Rattle.ftl_example.proofs.pairs.InfoClass.{class_is}

abbrev attribute_in : RuleName → ℕ
attribute_in (for_self k a) = a
attribute_in (for_child k c a) = a

abbrev child_in : RuleName → Option ℕ
child_in (for_self k a) = None
child_in (for_child k c a) = Some c

attribute_by : (k a : ℕ) (o : Option ℕ) → attribute_in (name_of_child k a o) ≡ a
attribute_by k a None = refl
attribute_by k a (Some c) = refl

child_by : (k a : ℕ) (o : Option ℕ) → child_in (name_of_child k a o) ≡ o
child_by k a None = refl
child_by k a (Some c) = refl

module _ (x y : RuleInfo) (e : name_of_info x ≡ name_of_info y) where
  pub same_class : x.class ≡ y.class
  same_class = sym (class_is x) ∙ ap class_of_rule e ∙ class_is y

  pub same_attribute : x.attr ≡ y.attr
  same_attribute = sym (attribute_by x.class x.attr x.child) ∙ ap attribute_in e ∙ attribute_by y.class y.attr y.child

  pub same_child : x.child ≡ y.child
  same_child = sym (child_by x.class x.attr x.child) ∙ ap child_in e ∙ child_by y.class y.attr y.child

abbrev same_number : ℕ → ℕ → Bool
same_number a b = a == b

child_test : (o p : Option ℕ) → option_eq same_number o p ≡ true → o ≡ p
child_test None None e = refl
child_test None (Some b) e = absurd (let z : ⊥ = cc (e) in z)
child_test (Some a) None e = absurd (let z : ⊥ = cc (e) in z)
child_test (Some a) (Some b) e = ap Some (eqb-true a b e)

child_itself : (o : Option ℕ) → option_eq same_number o o ≡ true
child_itself None = refl
child_itself (Some a) = eq-eqb a a refl

module _ (x y : RuleInfo) where
  -- the test by what is known of them
  abbrev pub same_rule : Bool
  same_rule = x.class == y.class && (option_eq same_number x.child y.child && x.attr == y.attr)

  pub named_by_test : same_rule ≡ true → name_of_info x ≡ name_of_info y
  named_by_test e =
      let front = and_parts (x.class == y.class) (option_eq same_number x.child y.child && x.attr == y.attr) e in
      let back = and_parts (option_eq same_number x.child y.child) (x.attr == y.attr) front.1 in
      ap (λ (k : ℕ). name_of_child k x.attr x.child) (eqb-true x.class y.class front.0)
      ∙ ap (λ (a : ℕ). name_of_child y.class a x.child) (eqb-true x.attr y.attr back.1)
      ∙ ap (λ (o : Option ℕ). name_of_child y.class y.attr o) (child_test x.child y.child back.0)

  pub test_by_name : name_of_info x ≡ name_of_info y → same_rule ≡ true
  test_by_name e =
      and_from (x.class == y.class) (option_eq same_number x.child y.child && x.attr == y.attr)
      (eq-eqb x.class y.class (same_class x y e))
      (and_from (option_eq same_number x.child y.child) (x.attr == y.attr)
      (subst (λ (o : Option ℕ). option_eq same_number x.child o ≡ true) (same_child x y e) (child_itself x.child))
      (eq-eqb x.attr y.attr (same_attribute x y e)))
