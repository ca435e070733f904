-- The first rule that writes what a reader looks for.
use Rattle.std.proofs.Common.{◌≡◌, ℕ, ◌==◌, ◌&&◌, ◌||◌, Bool, true, false, not, cond, List, [], ◌∷◌, ◌++◌, length, Option, Some, None, refl, sym, ◌∙◌, ap, ap₂, arith, eqb-true, eq-eqb}
use Rattle.std.specs.List.{position}
use Rattle.std.specs.Option.{is_some, option_and_then}
use Rattle.std.proofs.lemmas.Bool.{and_parts, false≢true}
use Rattle.std.proofs.lemmas.Bool.Decides.{nat_tests}
use Rattle.std.proofs.lemmas.Grind.{common_steps}
use Rattle.std.proofs.lemmas.List.Folds.{position_or_len_push}
use Rattle.std.proofs.lemmas.List.Sums.{prefix_len-le-length}
use Rattle.ftl_model.specs.layout.AttributeGrammar.{AttributeGrammar, RuleName, for_child, for_self}
use Rattle.ftl_order.specs.dependencies.Writers.{first_writer, is_above, is_below, writes_at}
use Rattle.ftl_order.specs.declared.dependencies.dep_read.DepRead.{DepRead}
use Rattle.ftl_order.specs.declared.dependencies.dep_read.Site.{Site}
use Rattle.ftl_order.specs.declared.dependencies.dep_read.Site.TheVariants as sites
use Rattle.ftl_order.proofs.dependencies.Places.{no_position}
use Rattle.ftl_deps.specs.reads.Products.{looked_for, or_this, same_product, writes, written_elsewhere, written_here}
use Rattle.ftl_deps.specs.declared.reads.product.Product.{Product}
use Rattle.ftl_deps.specs.declared.reads.product.Product.TheVariants as products

-- ---- tests

both_true : (a b : Bool) → (a ≡ true → b ≡ true) → (b ≡ true → a ≡ true) → a ≡ b
both_true true b f g = sym (f refl)
both_true false true f g = g refl
both_true false false f g = refl

-- the test of numbers goes both ways
eq_flips : (a b : ℕ) → (a == b) ≡ (b == a)
eq_flips a b =
    both_true (a == b) (b == a) (λ e. eq-eqb b a (sym (eqb-true a b e))) (λ e. eq-eqb a b (sym (eqb-true b a e)))

and_flips : (a b : Bool) → (a && b) ≡ (b && a)
and_flips true true = refl
and_flips true false = refl
and_flips false true = refl
and_flips false false = refl

or_none : (b : Bool) → b ≡ (b || false)
or_none true = refl
or_none false = refl

two_same : (a b c d : ℕ) → (a == b && c == d) ≡ true → (a ≡ b) × (c ≡ d)
two_same a b c d h = let p = and_parts (a == b) (c == d) h in (eqb-true a b p.0, eqb-true c d p.1)

-- two products that test as one are one
pub product_same : (p q : Product) → same_product p q ≡ true → p ≡ q
product_same (products.Own k a) (products.Own l b) h = let s = two_same k l a b h in ap₂ products.Own s.0 s.1
product_same (products.Own k a) (products.Kid l d b) h = absurd (false≢true h)
product_same (products.Own k a) (products.Above i b) h = absurd (false≢true h)
product_same (products.Own k a) (products.Below i b) h = absurd (false≢true h)
product_same (products.Kid k c a) (products.Own l b) h = absurd (false≢true h)
product_same (products.Kid k c a) (products.Kid l d b) h =
    let p = and_parts (k == l) (c == d && a == b) h in
    let s = two_same c d a b p.1 in
    ap (λ (n : ℕ). products.Kid n c a) (eqb-true k l p.0) ∙ ap₂ (λ (x y : ℕ). products.Kid l x y) s.0 s.1
product_same (products.Kid k c a) (products.Above i b) h = absurd (false≢true h)
product_same (products.Kid k c a) (products.Below i b) h = absurd (false≢true h)
product_same (products.Above i a) (products.Own l b) h = absurd (false≢true h)
product_same (products.Above i a) (products.Kid l d b) h = absurd (false≢true h)
product_same (products.Above i a) (products.Above j b) h = let s = two_same i j a b h in ap₂ products.Above s.0 s.1
product_same (products.Above i a) (products.Below j b) h = absurd (false≢true h)
product_same (products.Below i a) (products.Own l b) h = absurd (false≢true h)
product_same (products.Below i a) (products.Kid l d b) h = absurd (false≢true h)
product_same (products.Below i a) (products.Above j b) h = absurd (false≢true h)
product_same (products.Below i a) (products.Below j b) h = let s = two_same i j a b h in ap₂ products.Below s.0 s.1

-- ---- what a rule writes

-- a rule writes its two products, and no other
pub writes_two : (g : AttributeGrammar) (p : Product) (w : RuleName)
    → writes g p w ≡ (same_product (written_here w) p || same_product (written_elsewhere g w) p)
writes_two g (products.Own k a) (for_self l b) =
    ap₂ (λ x y. x && y) (eq_flips k l) (eq_flips a b) ∙ or_none (l == k && b == a)
writes_two g (products.Own k a) (for_child l d b) = refl
writes_two g (products.Kid k c a) (for_self l b) = refl
writes_two g (products.Kid k c a) (for_child l d b) =
    ap₂ (λ x y. x && y) (eq_flips k l) (ap₂ (λ x y. x && y) (eq_flips c d) (eq_flips a b))
    ∙ or_none (l == k && (d == c && b == a))
writes_two g (products.Above i a) (for_self l b) = refl
writes_two g (products.Above i a) (for_child l d b) =
    ap (λ x. x && g.child_interface l d == i) (eq_flips a b) ∙ and_flips (b == a) (g.child_interface l d == i)
writes_two g (products.Below i a) (for_self l b) =
    ap (λ x. x && g.interface l == i) (eq_flips a b) ∙ and_flips (b == a) (g.interface l == i)
writes_two g (products.Below i a) (for_child l d b) = refl

-- ---- the first one

-- what stands before keeps its place
position_kept : {X : Type 0} (p : X → Bool) (xs : List X) (y : X) (n : ℕ)
    → position p xs ≡ Some n → position p (xs ++ y ∷ []) ≡ Some n
position_kept p xs y n e = let h = position_or_len_push p xs y in grind (arith, nat_tests, common_steps)

-- what does not stand before is the new one, or not there
position_new : {X : Type 0} (p : X → Bool) (xs : List X) (y : X)
    → position p xs ≡ None → position p (xs ++ y ∷ []) ≡ cond (p y) (Some (length xs)) None
position_new p xs y e =
    let h = position_or_len_push p xs y in
    let within = prefix_len-le-length (λ x. not (p x)) xs in
    grind (arith, nat_tests, common_steps)

-- with one more entry at the end
pub position_more : {X : Type 0} (p : X → Bool) (xs : List X) (y : X)
    → position p (xs ++ y ∷ []) ≡ or_this (position p xs) (p y) (length xs)
position_more p xs y = go (position p xs) refl
  where
    by_test : (b : Bool) → cond b (Some (length xs)) None ≡ or_this None b (length xs)
    by_test true = refl
    by_test false = refl

    go : (o : Option ℕ) → position p xs ≡ o → position p (xs ++ y ∷ []) ≡ or_this o (p y) (length xs)
    go (Some n) e = position_kept p xs y n e
    go None e = position_new p xs y e ∙ by_test (p y)

-- two additions are one of either
either_comes : (o : Option ℕ) (a b : Bool) (n : ℕ) → or_this (or_this o a n) b n ≡ or_this o (a || b) n
either_comes (Some m) a b n = refl
either_comes None true b n = refl
either_comes None false b n = refl

-- a rule more
pub rule_more : (g : AttributeGrammar) (before : List RuleName) (w : RuleName) (n : ℕ)
    (old mid new : Product → Option ℕ) → length before ≡ n
    → ((p : Product) → old p ≡ position (writes g p) before)
    → ((p : Product) → mid p ≡ or_this (old p) (same_product (written_here w) p) n)
    → ((p : Product) → new p ≡ or_this (mid p) (same_product (written_elsewhere g w) p) n)
    → (p : Product) → new p ≡ position (writes g p) (before ++ w ∷ [])
rule_more g before w n old mid new long finds here there p =
    there p
    ∙ ap (λ o. or_this o (same_product (written_elsewhere g w) p) n) (here p)
    ∙ either_comes (old p) (same_product (written_here w) p) (same_product (written_elsewhere g w) p) n
    ∙ ap₂ (λ o b. or_this o b n) (finds p) (sym (writes_two g p w))
    ∙ ap (or_this (position (writes g p) before) (writes g p w)) (sym long)
    ∙ sym (position_more (writes g p) before w)

-- a product that has a rule keeps it
pub keeps_rule : (old : Product → Option ℕ) (key : Product) (n : ℕ) → is_some (old key) ≡ true
    → (p : Product) → old p ≡ or_this (old p) (same_product key p) n
keeps_rule old key n has p = go (old p) refl (same_product key p) refl
  where
    go : (o : Option ℕ) → old p ≡ o → (b : Bool) → same_product key p ≡ b → o ≡ or_this o b n
    go (Some m) is b e = refl
    go None is false e = refl
    go None is true e = absurd (false≢true (sym (ap is_some (ap old (product_same key p e) ∙ is)) ∙ has))

-- one that has none gets this one
pub gets_rule : (old new : Product → Option ℕ) (key : Product) (n : ℕ) → is_some (old key) ≡ false
    → ((p : Product) → new p ≡ cond (same_product key p) (Some n) (old p))
    → (p : Product) → new p ≡ or_this (old p) (same_product key p) n
gets_rule old new key n gone put p = put p ∙ go (old p) refl (same_product key p) refl
  where
    go : (o : Option ℕ) → old p ≡ o → (b : Bool) → same_product key p ≡ b → cond b (Some n) o ≡ or_this o b n
    go None is true e = refl
    go None is false e = refl
    go (Some m) is false e = refl
    go (Some m) is true e =
        absurd (false≢true (sym gone ∙ ap is_some (ap old (product_same key p e) ∙ is)))

-- ---- readers

same_position : {X : Type 0} (p q : X → Bool) (xs : List X) → ((x : X) → p x ≡ q x) → position p xs ≡ position q xs
same_position {X = X} p q xs same = ap (λ (t : X → Bool). position t xs) (λ i x. same x i)

above_same : (g : AttributeGrammar) (k a : ℕ) (w : RuleName) → is_above g k a w ≡ writes g (products.Above (g.interface k) a) w
above_same g k a (for_self l b) = refl
above_same g k a (for_child l d b) = refl

below_same : (g : AttributeGrammar) (k c a : ℕ) (w : RuleName)
    → is_below g k (Some c) a w ≡ writes g (products.Below (g.child_interface k c) a) w
below_same g k c a (for_self l b) = refl
below_same g k c a (for_child l d b) = refl

-- the first writer is the first rule that writes what is looked for
found_by : (g : AttributeGrammar) (k a : ℕ) (site : Site) (child : Option ℕ)
    → position (writes_at g k site child a) g.rules
    ≡ option_and_then (λ p. position (writes g p) g.rules) (looked_for g k site child a)
found_by g k a sites.Input child =
    no_position (writes_at g k sites.Input child a) g.rules (λ x there h. absurd (false≢true h))
found_by g k a sites.SameVisit None = refl
found_by g k a sites.SameVisit (Some c) = refl
found_by g k a sites.Above child =
    same_position (is_above g k a) (writes g (products.Above (g.interface k) a)) g.rules (above_same g k a)
found_by g k a sites.Below None =
    no_position (writes_at g k sites.Below None a) g.rules (λ x there h. absurd (false≢true h))
found_by g k a sites.Below (Some c) =
    same_position (is_below g k (Some c) a) (writes g (products.Below (g.child_interface k c) a)) g.rules
    (below_same g k c a)

-- so a map of first rules has it
pub writer_found : (g : AttributeGrammar) (k : ℕ) (d : DepRead) (look : Product → Option ℕ)
    → ((p : Product) → look p ≡ position (writes g p) g.rules)
    → (o : Option Product) → o ≡ looked_for g k d.site d.child d.attr
    → option_and_then look o ≡ first_writer g k d
writer_found g k d look finds o is =
    go o
    ∙ ap (option_and_then (λ p. position (writes g p) g.rules)) is
    ∙ sym (found_by g k d.attr d.site d.child)
  where
    go : (o : Option Product) → option_and_then look o ≡ option_and_then (λ p. position (writes g p) g.rules) o
    go None = refl
    go (Some p) = finds p
