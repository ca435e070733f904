-- Where rules stand in the visit of a node, and whether a schedule has a writer earlier, by that alone.
use Rattle.std.specs.Prelude.{ℕ, ◌&&◌, ◌||◌, Bool, nat_lt}
use Rattle.ftl_order.specs.declared.dependencies.dep_read.DepRead.{DepRead}
use Rattle.ftl_order.specs.orders.Ordered.{VisitPlace}
use Rattle.ftl_order.specs.orders.Schedule.{Placing}
use Rattle.ftl_order.specs.faults.OrderedReads.{in_pass_by, is_one_pass}
use Rattle.ftl_schedule.specs.declared.places.standing.Standing.{Standing}

-- the place that a rule has in the visit of a node
abbrev pub visit_place_meant : Standing → VisitPlace
visit_place_meant x = record { attribute = x.attr; block = x.block; child = x.child }

-- whether the writer x of what is read stands in an earlier stage than the reader y, or earlier in the same pass
abbrev pub is_ordered_at : Placing → DepRead → (x y : VisitPlace) → Bool
is_ordered_at at d x y =
    nat_lt (at x.attribute).stage (at y.attribute).stage
    || (is_one_pass (at x.attribute) (at y.attribute)
    && in_pass_by d.site (at y.attribute).kind at d x y)
