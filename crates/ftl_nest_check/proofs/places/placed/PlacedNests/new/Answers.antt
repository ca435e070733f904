use Rattle.std.proofs.Common.{subst, Contains}
use Rattle.ftl_order.specs.orders.Schedule.{Schedule, entries}
use Rattle.ftl_nest_check.proofs.places.placed.PlacedNests.new.Goals as goal

-- the outer entries are attributes of the grammar
pub new-requires : goal.new-requires
new-requires c =
    record {
      known = λ a there.
          c.requires.known a
          (subst (λ (s : Schedule). Contains (entries s) a) c.in_ok-outer.ensures.outer there);
    }
