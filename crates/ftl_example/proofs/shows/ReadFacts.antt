-- What a pair's read and writer are, by where the writer runs.
use Rattle.std.proofs.Common.{◌≡◌, ℕ, zero, suc, ◌-◌, ◌<◌, true, false, refl, sym, ◌∙◌, ap, subst, ⊎_elim, arith, [], ◌∷◌, Contains, eqb-true}
use Rattle.ftl_model.proofs.lists.Elements.{in_cases, nothing_in}
use Rattle.ftl_model.specs.layout.Tree.{Forest}
use Rattle.ftl_model.specs.layout.Path.{Has, Path, class_at, down, top}
use Rattle.ftl_model.specs.layout.AttributeGrammar.{AttributeGrammar, Occurrence, Part, Parts, Read, RuleName, Sort, each_read, first_part, first_then, fold_over, for_child, for_self, from_part, inherited, input, kid, kid_before, last_read, local, occurrences, plain, plain_part, prev_read, reads_in, self_read, single_read, synthesized, then_part, this_read, with_part}
use Rattle.ftl_model.specs.layout.Solves.{rule_kid, rule_name, rule_named, rule_node}
use Rattle.ftl_model.proofs.layout.Standing.{has_parent}
use Rattle.ftl_order.specs.orders.Lawful.{IsLawful, IsRule, MayReadLater, PartsForChild, class_of_rule}
use Rattle.ftl_order.specs.orders.Pairs.{Writes, WritesKid, WritesOwn, child_class, parent_class}
use Rattle.ftl_example.specs.shows.Shows.{at_hand}
use Rattle.ftl_example.specs.sizes.Place.{is_for, is_then, reads_child}

pub one_in : {X : Type 0} (x y : X) → Contains (x ∷ []) y → y ≡ x
one_in x y h = ⊎_elim (λ same. sym same) (λ none. absurd (nothing_in y none)) (in_cases x y [] h)

pub before_seen : (c a k : ℕ) (o : Occurrence) → Contains (kid_before c a k) o → (0 < k) × (o ≡ kid c (k - 1) a)
before_seen c a zero o h = absurd (nothing_in o h)
before_seen c a (suc k) o h = (
  (let z : 0 < suc k = omega arith in z),
  one_in (kid c k a) o h ∙ ap (λ n. kid c n a) (let z : k ≡ suc k - 1 = omega arith in z),
)

pub no_true : {X : Type 0} → false ≡ true → X
no_true e = absurd (let z : ⊥ = grind arith in z)

-- the attribute that is read
abbrev pub attribute_read : Read → ℕ
attribute_read (self_read a) = a
attribute_read (single_read d a) = a
attribute_read (each_read d a) = a
attribute_read (this_read d a) = a
attribute_read (prev_read d a) = a
attribute_read (last_read d a) = a

-- a read of a kid in child c sees one
pub sees_kid : (kids : ℕ → ℕ) (n : ℕ) (read : Read) (c : ℕ) → reads_child read c ≡ true → (o : Occurrence)
    → Contains (occurrences kids n read) o → (m : ℕ) × (o ≡ kid c m (attribute_read read))
sees_kid kids n (self_read a) c e o h = no_true e
sees_kid kids n (single_read d a) c e o h = (0, one_in (kid d 0 a) o h ∙ ap (λ x. kid x 0 a) (eqb-true d c e))
sees_kid kids n (each_read d a) c e o h = (n, one_in (kid d n a) o h ∙ ap (λ x. kid x n a) (eqb-true d c e))
sees_kid kids n (this_read d a) c e o h = (n, one_in (kid d n a) o h ∙ ap (λ x. kid x n a) (eqb-true d c e))
sees_kid kids n (prev_read d a) c e o h =
    (n - 1, (before_seen d a n o h).1 ∙ ap (λ x. kid x (n - 1) a) (eqb-true d c e))
sees_kid kids n (last_read d a) c e o h =
    (kids d - 1, (before_seen d a (kids d) o h).1 ∙ ap (λ x. kid x (kids d - 1) a) (eqb-true d c e))

pub by_kid : (g : AttributeGrammar) (class d a : ℕ) (w : RuleName) (s : Sort) → WritesKid g s class d a child_class w
    → (below a : ℕ) × (w ≡ for_self below a) × (below < g.class_count)
by_kid g class d a w input h = absurd h
by_kid g class d a w inherited h = absurd (let e = h.0 in let z : ⊥ = grind (arith, e) in z)
by_kid g class d a w synthesized h = (h.0, a, h.4, h.1)
by_kid g class d a w local h = absurd h

-- a writer at a kid is a rule for the kid itself
pub child_writes : (g : AttributeGrammar) (class : ℕ) (r : Read) (w : RuleName) → Writes g class r child_class w
    → (below a : ℕ) × (w ≡ for_self below a) × (below < g.class_count)
child_writes g class (self_read a) w h = by_own (g.sort a) h
  where
    by_own : (s : Sort) → WritesOwn g s class a child_class w → (below a : ℕ) × (w ≡ for_self below a) × (below < g.class_count)
    by_own input h = absurd h
    by_own inherited h = absurd (let e = h.5 in let z : ⊥ = grind (arith, e) in z)
    by_own synthesized h = absurd (let e = h.0 in let z : ⊥ = grind (arith, e) in z)
    by_own local h = absurd (let e = h.0 in let z : ⊥ = grind (arith, e) in z)
child_writes g class (single_read d a) w h = by_kid g class d a w (g.sort a) h
child_writes g class (each_read d a) w h = by_kid g class d a w (g.sort a) h
child_writes g class (this_read d a) w h = by_kid g class d a w (g.sort a) h
child_writes g class (prev_read d a) w h = by_kid g class d a w (g.sort a) h
child_writes g class (last_read d a) w h = by_kid g class d a w (g.sort a) h

-- the rule of a node's own class
pub own_class : (t : Forest) (s : Sort) (q : Path) (a below b : ℕ) → rule_name t s q a ≡ for_self below b
    → class_at t q ≡ below
own_class t inherited (down c k q) a below b e = absurd (let z : ⊥ = grind (arith, e) in z)
own_class t inherited top a below b e = ap class_of_rule e
own_class t input q a below b e = ap class_of_rule e
own_class t synthesized q a below b e = ap class_of_rule e
own_class t local q a below b e = ap class_of_rule e

-- where a step runs, by its rule's name
pub runs_here : (t : Forest) (s : Sort) (q : Path) (a : ℕ) → Has t q
    → Has t (rule_node s q) × (class_at t (rule_node s q) ≡ class_of_rule (rule_name t s q a))
    × ((c : ℕ) → is_for (rule_name t s q a) c ≡ true → Has t (down c (rule_kid s q) (rule_node s q)))
runs_here t inherited (down d k q) a h = (
  has_parent t d k q h,
  refl,
  (λ c e. subst (λ x. Has t (down x k q)) (eqb-true d c e) h),
)
runs_here t inherited top a h = (h, refl, (λ c e. no_true e))
runs_here t input q a h = (h, refl, (λ c e. no_true e))
runs_here t synthesized q a h = (h, refl, (λ c e. no_true e))
runs_here t local q a h = (h, refl, (λ c e. no_true e))

-- the part for later kids has a kid before, and this one at hand
pub then_hand : (parts : Parts) (part : Part) (kids : ℕ → ℕ) (k n : ℕ) → is_then part ≡ true
    → Contains (at_hand parts part kids k) n → (0 < k) × (n ≡ k)
then_hand parts plain_part kids k n e h = no_true e
then_hand parts first_part kids k n e h = no_true e
then_hand parts from_part kids k n e h = no_true e
then_hand parts with_part kids k n e h = no_true e
then_hand (plain reads) then_part kids k n e h = absurd (nothing_in n h)
then_hand (first_then first later) then_part kids zero n e h = absurd (nothing_in n h)
then_hand (first_then first later) then_part kids (suc k) n e h = (omega arith, one_in (suc k) n h)
then_hand (fold_over c start step) then_part kids k n e h = absurd (nothing_in n h)

-- what such a part may read
pub then_may : (g : AttributeGrammar) (class d : ℕ) (parts : Parts) (part : Part) (r : Read) → is_then part ≡ true
    → PartsForChild g class d parts → Contains (reads_in parts part) r → MayReadLater g class d r
then_may g class d parts plain_part r e may h = no_true e
then_may g class d parts first_part r e may h = no_true e
then_may g class d parts from_part r e may h = no_true e
then_may g class d parts with_part r e may h = no_true e
then_may g class d (plain reads) then_part r e may h = absurd (nothing_in r h)
then_may g class d (first_then first later) then_part r e may h = may.2 r h
then_may g class d (fold_over c start step) then_part r e may h = absurd may

-- of a rule for the kids of child c
pub later_may : (g : AttributeGrammar) (law : IsLawful g) (reader : RuleName) (part : Part) (r : Read) → IsRule g reader
    → Contains (reads_in (rule_named g reader).parts part) r → (c : ℕ) → is_for reader c ≡ true → is_then part ≡ true
    → MayReadLater g (class_of_rule reader) c r
later_may g law (for_self k a) part r is h c e f = no_true e
later_may g law (for_child k d a) part r is h c e f =
    subst (λ x. MayReadLater g k x r) (eqb-true d c e)
    (then_may g k d (g.child_rule k d a).parts part r f (law.child_parts k d a is) h)

pub no_kid : (g : AttributeGrammar) (class d a : ℕ) (w : RuleName) (s : Sort) → WritesKid g s class d a parent_class w → ⊥
no_kid g class d a w input h = h
no_kid g class d a w inherited h = (let e = h.0 in let z : ⊥ = grind (arith, e) in z)
no_kid g class d a w synthesized h = (let e = h.3 in let z : ⊥ = grind (arith, e) in z)
no_kid g class d a w local h = h

-- a writer at the parent is for the kids of a child, and writes an inherited attribute of the node
pub parent_writes : (g : AttributeGrammar) (class : ℕ) (r : Read) (w : RuleName) → Writes g class r parent_class w
    → (above c a : ℕ) × (w ≡ for_child above c a) × (r ≡ self_read a) × (g.sort a ≡ inherited) × (c < g.child_count above)
    × (above < g.class_count)
parent_writes g class (self_read a) w h = by_own (g.sort a) refl h
  where
    by_own : (s : Sort) → g.sort a ≡ s → WritesOwn g s class a parent_class w
        → (above c b : ℕ) × (w ≡ for_child above c b) × (self_read a ≡ self_read b) × (g.sort b ≡ inherited)
        × (c < g.child_count above) × (above < g.class_count)
    by_own input e h = absurd h
    by_own inherited e h = (h.0, h.1, a, h.6, refl, e, h.3, h.2)
    by_own synthesized e h = absurd (let f = h.0 in let z : ⊥ = grind (arith, f) in z)
    by_own local e h = absurd (let f = h.0 in let z : ⊥ = grind (arith, f) in z)
parent_writes g class (single_read d a) w h = absurd (no_kid g class d a w (g.sort a) h)
parent_writes g class (each_read d a) w h = absurd (no_kid g class d a w (g.sort a) h)
parent_writes g class (this_read d a) w h = absurd (no_kid g class d a w (g.sort a) h)
parent_writes g class (prev_read d a) w h = absurd (no_kid g class d a w (g.sort a) h)
parent_writes g class (last_read d a) w h = absurd (no_kid g class d a w (g.sort a) h)
