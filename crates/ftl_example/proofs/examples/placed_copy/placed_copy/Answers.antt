use Rattle.std.proofs.Common.{◌<◌, sym, subst, Contains}
use Rattle.ftl_order.specs.orders.Schedule.{entries}
use Rattle.ftl_schedule.specs.declared.stages.types.Schedule.{Schedule}
use Rattle.ftl_schedule.specs.stages.Stages.{stages_of}
use Rattle.ftl_example.proofs.examples.placed_copy.placed_copy.Goals as goal

-- the entries are attributes of the grammar
pub new-requires : goal.new-requires
new-requires c =
    record {
      known = λ a there.
          subst (λ m. a < m) (sym c.attribute_count.ensures.count)
          (c.requires.computed a
          (subst (λ (s : Schedule). Contains (entries (stages_of s)) a) c.in_ok-copy.ensures.same there)).0;
    }
