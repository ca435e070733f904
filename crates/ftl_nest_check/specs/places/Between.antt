-- The table of ordered reads by two places alone: that of the writer x and that of the reader y.
use Rattle.std.specs.Prelude.{◌==◌, ◌&&◌, ◌||◌, Bool, true, nat_lt}
use Rattle.ftl_order.specs.orders.Ordered.{VisitPlace}
use Rattle.ftl_order.specs.orders.Schedule.{PassKind, SchedulePlace, bottomup, inorder, topdown}
use Rattle.ftl_order.specs.declared.dependencies.dep_read.DepRead.{DepRead}
use Rattle.ftl_order.specs.declared.dependencies.dep_read.Site.{Site}
use Rattle.ftl_order.specs.declared.dependencies.dep_read.Site.TheVariants as sites
use Rattle.ftl_order.specs.faults.OrderedReads.{child_or_zero, from_kid, from_parent, has_earlier_block, is_one_pass}
use Rattle.ftl_order.specs.faults.OrderedReads.{is_prev, is_same_block, is_same_rule}

-- whether x has the smaller key in their pass
abbrev pub smaller_key_between : (early late : SchedulePlace) → VisitPlace → VisitPlace → Bool
smaller_key_between early late x y =
    nat_lt early.index late.index || (early.index == late.index && nat_lt x.child y.child)

-- in one pass, and both rules run at one node
abbrev pub same_visit_between : PassKind → (early late : SchedulePlace) → (by_prev : Bool) → VisitPlace → VisitPlace
    → Bool
same_visit_between topdown early late by_prev x y =
    smaller_key_between early late x y || (by_prev && is_same_rule x y)
same_visit_between bottomup early late by_prev x y =
    smaller_key_between early late x y || (by_prev && is_same_rule x y)
same_visit_between inorder early late by_prev x y =
    has_earlier_block x y || (is_same_block x y && (smaller_key_between early late x y || by_prev))

-- in one pass of this kind
abbrev pub in_pass_between : Site → PassKind → (early late : SchedulePlace) → DepRead → VisitPlace → VisitPlace → Bool
in_pass_between sites.Input kind early late d x y = true
in_pass_between sites.SameVisit kind early late d x y = same_visit_between kind early late (is_prev d.form) x y
in_pass_between sites.Above kind early late d x y = from_parent kind
in_pass_between sites.Below kind early late d x y = from_kid kind (is_prev d.form) (child_or_zero d.child) y

-- in an earlier stage, or earlier in the same pass
abbrev pub ordered_between : (early late : SchedulePlace) → DepRead → VisitPlace → VisitPlace → Bool
ordered_between early late d x y =
    nat_lt early.stage late.stage || (is_one_pass early late && in_pass_between d.site late.kind early late d x y)
