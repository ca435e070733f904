-- Rules that write what one rule reads stand alike: the schedule has all of them earlier, or none.
use Rattle.std.proofs.Common.{◌≡◌, ℕ, ◌==◌, ◌&&◌, ◌||◌, nat_lt, Bool, true, false, Option, Some, None, refl, sym, ◌∙◌, ap, eqb-true}
use Rattle.std.proofs.lemmas.Bool.{and_parts}
use Rattle.ftl_model.specs.layout.AttributeGrammar.{AttributeGrammar, RuleName, for_child, for_self}
use Rattle.ftl_order.specs.orders.Ordered.{VisitPlace, visit_place}
use Rattle.ftl_order.specs.orders.Schedule.{Placing}
use Rattle.ftl_order.specs.dependencies.Writers.{is_above, is_below, is_of_class, is_writer, writes_at}
use Rattle.ftl_order.specs.declared.dependencies.dep_read.DepRead.{DepRead}
use Rattle.ftl_order.specs.declared.dependencies.dep_read.Site.{Site}
use Rattle.ftl_order.specs.declared.dependencies.dep_read.Site.TheVariants as sites
use Rattle.ftl_order.specs.faults.OrderedReads.{in_pass_by, is_one_pass, is_ordered_read}

-- the rule that a rule of the class is, for this attribute
abbrev pub of_class_is : (k : ℕ) (c : Option ℕ) (a : ℕ) → RuleName
of_class_is k None a = for_self k a
of_class_is k (Some c) a = for_child k c a

pub of_class : (k : ℕ) (c : Option ℕ) (a : ℕ) (v : RuleName) → is_of_class k c a v ≡ true → v ≡ of_class_is k c a
of_class k None a (for_self l b) e =
    let parts = and_parts (k == l) (a == b) e in
    ap (λ n. for_self n b) (sym (eqb-true k l parts.0)) ∙ ap (λ n. for_self k n) (sym (eqb-true a b parts.1))
of_class k None a (for_child l d b) e = cc
of_class k (Some c) a (for_self l b) e = cc
of_class k (Some c) a (for_child l d b) e =
    let parts = and_parts (k == l) (c == d && a == b) e in
    let more = and_parts (c == d) (a == b) parts.1 in
    ap (λ n. for_child n d b) (sym (eqb-true k l parts.0))
    ∙ ap (λ n. for_child k n b) (sym (eqb-true c d more.0))
    ∙ ap (λ n. for_child k c n) (sym (eqb-true a b more.1))

module _ (g : AttributeGrammar) (k : ℕ) where
  above : (a : ℕ) (v : RuleName) → is_above g k a v ≡ true → (visit_place g v).attribute ≡ a
  above a (for_self l b) e = cc
  above a (for_child l d b) e = sym (eqb-true a b (and_parts (a == b) (g.child_interface l d == g.interface k) e).0)

  below : (c : Option ℕ) (a : ℕ) (v : RuleName) → is_below g k c a v ≡ true → (visit_place g v).attribute ≡ a
  below None a v e = cc
  below (Some c) a (for_self l b) e = sym (eqb-true a b (and_parts (a == b) (g.interface l == g.child_interface k c) e).0)
  below (Some c) a (for_child l d b) e = cc

-- whether the writer stands earlier, by the site of what is read
abbrev pub earlier : Placing → DepRead → (reader : VisitPlace) → Site → VisitPlace → Bool
earlier at d y s x =
    nat_lt (at x.attribute).stage (at y.attribute).stage
    || (is_one_pass (at x.attribute) (at y.attribute) && in_pass_by s (at y.attribute).kind at d x y)

pub by_site : (g : AttributeGrammar) (at : Placing) (k : ℕ) (d : DepRead) (y : VisitPlace) (v u : RuleName) (s : Site)
    (c : Option ℕ) (a : ℕ)
    → writes_at g k s c a v ≡ true → writes_at g k s c a u ≡ true
    → earlier at d y s (visit_place g v) ≡ earlier at d y s (visit_place g u)
by_site g at k d y v u sites.Input c a e f = cc
by_site g at k d y v u sites.SameVisit c a e f =
    ap (λ w. earlier at d y sites.SameVisit (visit_place g w)) (of_class k c a v e ∙ sym (of_class k c a u f))
by_site g at k d y v u sites.Above c a e f =
    ap (λ b. nat_lt (at b).stage (at y.attribute).stage
    || (is_one_pass (at b) (at y.attribute) && in_pass_by sites.Above (at y.attribute).kind at d y y))
    (above g k a v e ∙ sym (above g k a u f))
by_site g at k d y v u sites.Below c a e f =
    ap (λ b. nat_lt (at b).stage (at y.attribute).stage
    || (is_one_pass (at b) (at y.attribute) && in_pass_by sites.Below (at y.attribute).kind at d y y))
    (below g k c a v e ∙ sym (below g k c a u f))

-- the schedule has one writer of a read earlier exactly where it has another
pub writers_alike : (g : AttributeGrammar) (at : Placing) (k : ℕ) (w : RuleName) (d : DepRead) (v u : RuleName)
    → is_writer g k d v ≡ true → is_writer g k d u ≡ true → is_ordered_read g at d v w ≡ is_ordered_read g at d u w
writers_alike g at k w d v u e f = by_site g at k d (visit_place g w) v u d.site d.child d.attr e f
