-- The first rule with each target.
use Rattle.std.proofs.Common.{◌≡◌, ℕ, ◌==◌, ◌&&◌, Bool, true, false, cond, List, [], ◌∷◌, ◌++◌, length, Option, Some, None, refl, sym, ◌∙◌, ap, ap₂, eqb-true, eq-eqb}
use Rattle.std.specs.List.{position}
use Rattle.std.specs.Option.{is_some}
use Rattle.std.proofs.lemmas.Bool.{and_parts, false≢true}
use Rattle.ftl_model.specs.layout.AttributeGrammar.{RuleName, for_child, for_self}
use Rattle.ftl_deps.specs.reads.Products.{or_this}
use Rattle.ftl_deps.proofs.reads.FirstRules.{position_more}
use Rattle.ftl_visit.specs.visits.Targets.{defines, same_target, target_of}
use Rattle.ftl_visit.specs.declared.visits.target.Target.{Target}
use Rattle.ftl_visit.specs.declared.visits.target.Target.TheVariants as targets

both_true : (a b : Bool) → (a ≡ true → b ≡ true) → (b ≡ true → a ≡ true) → a ≡ b
both_true true b f g = sym (f refl)
both_true false true f g = g refl
both_true false false f g = refl

-- the test of numbers goes both ways
eq_flips : (a b : ℕ) → (a == b) ≡ (b == a)
eq_flips a b =
    both_true (a == b) (b == a) (λ e. eq-eqb b a (sym (eqb-true a b e))) (λ e. eq-eqb a b (sym (eqb-true b a e)))

two_same : (a b c d : ℕ) → (a == b && c == d) ≡ true → (a ≡ b) × (c ≡ d)
two_same a b c d h = let p = and_parts (a == b) (c == d) h in (eqb-true a b p.0, eqb-true c d p.1)

-- two targets that test as one are one
target_same : (x y : Target) → same_target x y ≡ true → x ≡ y
target_same (targets.Own k a) (targets.Own l b) h = let s = two_same k l a b h in ap₂ targets.Own s.0 s.1
target_same (targets.Own k a) (targets.Kid l d b) h = absurd (false≢true h)
target_same (targets.Kid k c a) (targets.Own l b) h = absurd (false≢true h)
target_same (targets.Kid k c a) (targets.Kid l d b) h =
    let p = and_parts (k == l) (c == d && a == b) h in
    let s = two_same c d a b p.1 in
    ap (λ (n : ℕ). targets.Kid n c a) (eqb-true k l p.0) ∙ ap₂ (λ (x y : ℕ). targets.Kid l x y) s.0 s.1

-- a rule defines its target, and no other
defines_one : (x : Target) (w : RuleName) → defines x w ≡ same_target (target_of w) x
defines_one (targets.Own k a) (for_self l b) = ap₂ (λ x y. x && y) (eq_flips k l) (eq_flips a b)
defines_one (targets.Own k a) (for_child l d b) = refl
defines_one (targets.Kid k c a) (for_self l b) = refl
defines_one (targets.Kid k c a) (for_child l d b) =
    ap₂ (λ x y. x && y) (eq_flips k l) (ap₂ (λ x y. x && y) (eq_flips c d) (eq_flips a b))

-- a rule more
pub rule_more : (before : List RuleName) (w : RuleName) (n : ℕ) (old new : Target → Option ℕ) → length before ≡ n
    → ((x : Target) → old x ≡ position (defines x) before)
    → ((x : Target) → new x ≡ or_this (old x) (same_target (target_of w) x) n)
    → (x : Target) → new x ≡ position (defines x) (before ++ w ∷ [])
rule_more before w n old new long finds here x =
    here x
    ∙ ap₂ (λ o b. or_this o b n) (finds x) (sym (defines_one x w))
    ∙ ap (or_this (position (defines x) before) (defines x w)) (sym long)
    ∙ sym (position_more (defines x) before w)

-- a target that has a rule keeps it
pub keeps_rule : (old : Target → Option ℕ) (key : Target) (n : ℕ) → is_some (old key) ≡ true
    → (x : Target) → old x ≡ or_this (old x) (same_target key x) n
keeps_rule old key n has x = go (old x) refl (same_target key x) refl
  where
    go : (o : Option ℕ) → old x ≡ o → (b : Bool) → same_target key x ≡ b → o ≡ or_this o b n
    go (Some m) is b e = refl
    go None is false e = refl
    go None is true e = absurd (false≢true (sym (ap is_some (ap old (target_same key x e) ∙ is)) ∙ has))

-- one that has none gets this one
pub gets_rule : (old new : Target → Option ℕ) (key : Target) (n : ℕ) → is_some (old key) ≡ false
    → ((x : Target) → new x ≡ cond (same_target key x) (Some n) (old x))
    → (x : Target) → new x ≡ or_this (old x) (same_target key x) n
gets_rule old new key n gone put x = put x ∙ go (old x) refl (same_target key x) refl
  where
    go : (o : Option ℕ) → old x ≡ o → (b : Bool) → same_target key x ≡ b → cond b (Some n) o ≡ or_this o b n
    go None is true e = refl
    go None is false e = refl
    go (Some m) is false e = refl
    go (Some m) is true e = absurd (false≢true (sym gone ∙ ap is_some (ap old (target_same key x e) ∙ is)))
