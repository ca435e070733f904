-- The tests of the table of ordered reads decide its rows.
use Rattle.std.proofs.Common.{◌≡◌, ℕ, Bool, true, Some, refl, subst}
use Rattle.std.specs.Bool.{Decides}
use Rattle.std.proofs.lemmas.Bool.Decides.{Decides-and, Decides-or, Decides-ltb, Decides-eqb}
use Rattle.ftl_model.specs.layout.AttributeGrammar.{AttributeGrammar, Read, RuleName, each_read, last_read, prev_read}
use Rattle.ftl_model.specs.layout.AttributeGrammar.{self_read, single_read, this_read}
use Rattle.ftl_order.specs.orders.Ordered.{VisitPlace, visit_place, KeyBelow, IsSameRule, BlockBelow, IsSameBlock}
use Rattle.ftl_order.specs.orders.Ordered.{SameClassRow, ParentRow, ChildRow, Row, IsOrderedRead}
use Rattle.ftl_order.specs.orders.Pairs.{Where, child_class, child_read, is_by_prev, parent_class, same_class}
use Rattle.ftl_order.specs.orders.Schedule.{PassKind, Placing, SchedulePlace, IsOnePass, bottomup, inorder, topdown}
use Rattle.ftl_order.specs.dependencies.DepLaws.{where_of}
use Rattle.ftl_order.specs.dependencies.DepReads.{dep_read}
use Rattle.ftl_order.specs.declared.dependencies.dep_read.DepRead.{DepRead}
use Rattle.ftl_order.specs.declared.dependencies.dep_read.Site.{Site}
use Rattle.ftl_order.specs.declared.dependencies.dep_read.Site.TheVariants as sites
use Rattle.ftl_order.specs.faults.OrderedReads.{has_smaller_key, is_same_rule, has_earlier_block, is_same_block}
use Rattle.ftl_order.specs.faults.OrderedReads.{is_prev, child_or_zero, in_same_visit, from_parent, from_kid}
use Rattle.ftl_order.specs.faults.OrderedReads.{in_pass_by, is_one_pass, is_ordered_read}

-- a test of a test
itself : (b : Bool) → Decides b (b ≡ true)
itself b = ((λ e. e), (λ e. e))

key_tells : (at : Placing) (x y : VisitPlace) → Decides (has_smaller_key at x y) (KeyBelow at x y)
key_tells at x y =
    Decides-or _ _ (Decides-ltb (at x.attribute).index (at y.attribute).index)
    (Decides-and _ _ (Decides-eqb (at x.attribute).index (at y.attribute).index) (Decides-ltb x.child y.child))

same_rule_tells : (x y : VisitPlace) → Decides (is_same_rule x y) (IsSameRule x y)
same_rule_tells x y = Decides-and _ _ (Decides-eqb x.attribute y.attribute) (Decides-eqb x.child y.child)

block_tells : (x y : VisitPlace) → Decides (has_earlier_block x y) (BlockBelow x y)
block_tells x y =
    Decides-or _ _ (Decides-ltb x.block y.block)
    (Decides-and _ _ (Decides-eqb x.block y.block) (Decides-ltb x.child y.child))

same_block_tells : (x y : VisitPlace) → Decides (is_same_block x y) (IsSameBlock x y)
same_block_tells x y = Decides-and _ _ (Decides-eqb x.block y.block) (Decides-eqb x.child y.child)

visit_tells : (kind : PassKind) (at : Placing) (by_prev : Bool) (x y : VisitPlace)
    → Decides (in_same_visit kind at by_prev x y) (SameClassRow kind at by_prev x y)
visit_tells topdown at by_prev x y =
    Decides-or _ _ (key_tells at x y) (Decides-and _ _ (itself by_prev) (same_rule_tells x y))
visit_tells bottomup at by_prev x y =
    Decides-or _ _ (key_tells at x y) (Decides-and _ _ (itself by_prev) (same_rule_tells x y))
visit_tells inorder at by_prev x y =
    Decides-or _ _ (block_tells x y)
    (Decides-and _ _ (same_block_tells x y) (Decides-or _ _ (key_tells at x y) (itself by_prev)))

parent_tells : (kind : PassKind) → Decides (from_parent kind) (ParentRow kind)
parent_tells topdown = ((λ e. tt), (λ p. refl))
parent_tells bottomup = ((λ e. cc), (λ p. absurd p))
parent_tells inorder = ((λ e. tt), (λ p. refl))

kid_tells : (kind : PassKind) (by_prev : Bool) (c : ℕ) (y : VisitPlace)
    → Decides (from_kid kind by_prev c y) (ChildRow kind by_prev c y)
kid_tells topdown by_prev c y = ((λ e. cc), (λ p. absurd p))
kid_tells bottomup by_prev c y = ((λ e. tt), (λ p. refl))
kid_tells inorder by_prev c y =
    Decides-or _ _ (Decides-eqb y.block 2)
    (Decides-and _ _ (Decides-eqb y.block 1) (Decides-or _ _ (Decides-ltb c y.child) (itself by_prev)))

-- what a read by number says of `prev` and of its child
prev_is : (g : AttributeGrammar) (r : Read) → is_prev (dep_read g r).form ≡ is_by_prev r
prev_is g (self_read a) = refl
prev_is g (single_read c a) = refl
prev_is g (each_read c a) = refl
prev_is g (this_read c a) = refl
prev_is g (prev_read c a) = refl
prev_is g (last_read c a) = refl

child_is : (g : AttributeGrammar) (r : Read) → child_or_zero (dep_read g r).child ≡ child_read r
child_is g (self_read a) = refl
child_is g (single_read c a) = refl
child_is g (each_read c a) = refl
child_is g (this_read c a) = refl
child_is g (prev_read c a) = refl
child_is g (last_read c a) = refl

-- the row, by the site
row_tells : (s : Site) (runs_at : Where) (kind : PassKind) (at : Placing) (d : DepRead) (r : Read) (x y : VisitPlace)
    → where_of s ≡ Some runs_at → is_prev d.form ≡ is_by_prev r → child_or_zero d.child ≡ child_read r
    → Decides (in_pass_by s kind at d x y) (Row runs_at kind at r x y)
row_tells sites.Input runs_at kind at d r x y e p c = cc
row_tells sites.SameVisit same_class kind at d r x y e p c =
    subst (λ b. Decides (in_same_visit kind at (is_prev d.form) x y) (SameClassRow kind at b x y)) p
    (visit_tells kind at (is_prev d.form) x y)
row_tells sites.SameVisit parent_class kind at d r x y e p c = cc
row_tells sites.SameVisit child_class kind at d r x y e p c = cc
row_tells sites.Above same_class kind at d r x y e p c = cc
row_tells sites.Above parent_class kind at d r x y e p c = parent_tells kind
row_tells sites.Above child_class kind at d r x y e p c = cc
row_tells sites.Below same_class kind at d r x y e p c = cc
row_tells sites.Below parent_class kind at d r x y e p c = cc
row_tells sites.Below child_class kind at d r x y e p c =
    subst (λ b. Decides (from_kid kind (is_prev d.form) (child_or_zero d.child) y) (ChildRow kind b (child_read r) y)) p
    (subst (λ k. Decides (from_kid kind (is_prev d.form) (child_or_zero d.child) y) (ChildRow kind (is_prev d.form) k y))
    c (kid_tells kind (is_prev d.form) (child_or_zero d.child) y))

one_pass_tells : (x y : SchedulePlace) → Decides (is_one_pass x y) (IsOnePass x y)
one_pass_tells x y = Decides-and _ _ (Decides-eqb x.stage y.stage) (Decides-eqb x.pass y.pass)

-- the whole row, for a read and where its writers run
pub ordered_tells : (g : AttributeGrammar) (at : Placing) (runs_at : Where) (r : Read) (v w : RuleName)
    → where_of (dep_read g r).site ≡ Some runs_at
    → Decides (is_ordered_read g at (dep_read g r) v w) (IsOrderedRead at runs_at r (visit_place g v) (visit_place g w))
ordered_tells g at runs_at r v w e =
    let x = at (visit_place g v).attribute in
    let y = at (visit_place g w).attribute in
    Decides-or _ _ (Decides-ltb x.stage y.stage)
    (Decides-and _ _ (one_pass_tells x y)
    (row_tells (dep_read g r).site runs_at y.kind at (dep_read g r) r (visit_place g v) (visit_place g w) e
    (prev_is g r) (child_is g r)))
