-- The test for the rule of a class for an attribute passes for that rule alone.
use Rattle.std.proofs.Common.{◌≡◌, ℕ, ◌==◌, ◌&&◌, true, Some, None, refl, sym, ◌∙◌, ap, ap₂, eqb-true, eq-eqb}
use Rattle.std.proofs.lemmas.Bool.{and_parts, false≢true}
use Rattle.ftl_model.specs.layout.AttributeGrammar.{RuleName, for_child, for_self}
use Rattle.ftl_order.specs.dependencies.Writers.{is_of_class}

same_test : (a : ℕ) → (a == a) ≡ true
same_test a = eq-eqb a a refl

pub own_is : (k a : ℕ) (w : RuleName) → is_of_class k None a w ≡ true → w ≡ for_self k a
own_is k a (for_self l b) h =
    let p = and_parts (k == l) (a == b) h in
    sym (ap₂ for_self (eqb-true k l p.0) (eqb-true a b p.1))
own_is k a (for_child l d b) h = absurd (false≢true h)

pub kid_is : (k c a : ℕ) (w : RuleName) → is_of_class k (Some c) a w ≡ true → w ≡ for_child k c a
kid_is k c a (for_self l b) h = absurd (false≢true h)
kid_is k c a (for_child l d b) h =
    let p = and_parts (k == l) (c == d && a == b) h in
    let q = and_parts (c == d) (a == b) p.1 in
    sym (ap (λ n. for_child n c a) (eqb-true k l p.0) ∙ ap₂ (for_child l) (eqb-true c d q.0) (eqb-true a b q.1))

pub own_passes : (k a : ℕ) → is_of_class k None a (for_self k a) ≡ true
own_passes k a = ap₂ (λ x y. x && y) (same_test k) (same_test a)

pub kid_passes : (k c a : ℕ) → is_of_class k (Some c) a (for_child k c a) ≡ true
kid_passes k c a = ap₂ (λ x y. x && y) (same_test k) (ap₂ (λ x y. x && y) (same_test c) (same_test a))
