use Rattle.std.proofs.Common.{◌∙◌, ap}
use Rattle.ftl_order.specs.orders.Schedule.{SchedulePlace}
use Rattle.ftl_nests.specs.Nests.{nesting_pass}
use Rattle.ftl_nest_check.specs.places.NestPlaced.{host_behind}
use Rattle.ftl_nest_check.specs.stages.Nested.{nests_of}
use Rattle.ftl_nest_check.proofs.places.HostPlaces.{host_is}
use Rattle.ftl_nest_check.proofs.places.placed.PlacedNests.host.Goals as goal

pub returns : goal.returns
returns c =
    let s = nests_of c.args.self.now in
    record {
      host =
          c.host_at.ensures.host
          ∙ ap (λ (p : SchedulePlace). host_behind (nesting_pass s p.stage p.pass) p.index) c.outer.ensures.place
          ∙ host_is s c.args.attr;
    }
