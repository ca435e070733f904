-- The table of ordered reads asks of the places of the writer and of the reader alone.
use Rattle.std.proofs.Common.{◌≡◌, ◌&&◌, ◌||◌, nat_lt, refl, ap}
use Rattle.ftl_order.specs.orders.Ordered.{VisitPlace}
use Rattle.ftl_order.specs.orders.Schedule.{PassKind, Placing, bottomup, inorder, topdown}
use Rattle.ftl_order.specs.declared.dependencies.dep_read.DepRead.{DepRead}
use Rattle.ftl_order.specs.declared.dependencies.dep_read.Site.{Site}
use Rattle.ftl_order.specs.declared.dependencies.dep_read.Site.TheVariants as sites
use Rattle.ftl_order.specs.faults.OrderedReads.{in_pass_by, is_one_pass}
use Rattle.ftl_schedule.specs.places.Standing.{is_ordered_at}
use Rattle.ftl_nest_check.specs.places.Between.{in_pass_between, ordered_between}

pub pass_is_between : (s : Site) (kind : PassKind) (at : Placing) (d : DepRead) (x y : VisitPlace)
    → in_pass_by s kind at d x y ≡ in_pass_between s kind (at x.attribute) (at y.attribute) d x y
pass_is_between sites.Input kind at d x y = refl
pass_is_between sites.SameVisit topdown at d x y = refl
pass_is_between sites.SameVisit bottomup at d x y = refl
pass_is_between sites.SameVisit inorder at d x y = refl
pass_is_between sites.Above kind at d x y = refl
pass_is_between sites.Below kind at d x y = refl

pub order_is_between : (at : Placing) (d : DepRead) (x y : VisitPlace)
    → is_ordered_at at d x y ≡ ordered_between (at x.attribute) (at y.attribute) d x y
order_is_between at d x y =
    ap (λ b. nat_lt (at x.attribute).stage (at y.attribute).stage || (is_one_pass (at x.attribute) (at y.attribute) && b))
    (pass_is_between d.site (at y.attribute).kind at d x y)

pub ruleset between_steps = (pass_is_between, order_is_between)
