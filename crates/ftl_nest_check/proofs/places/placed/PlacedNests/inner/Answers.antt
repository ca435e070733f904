use Rattle.std.proofs.Common.{◌≡◌, ◌-◌, ◌∙◌, ap, arith, length}
use Rattle.std.proofs.lemmas.Grind.{common_steps}
use Rattle.ftl_order.specs.orders.Schedule.{SchedulePlace}
use Rattle.ftl_schedule.specs.places.Entries.{schedule_place_meant}
use Rattle.ftl_nests.specs.Nests.{nesting_pass}
use Rattle.ftl_nest_check.specs.places.NestPlaced.{inner_entries, place_in_stages}
use Rattle.ftl_nest_check.specs.stages.Nested.{nests_of}
use Rattle.ftl_nest_check.proofs.places.HostPlaces.{inner_is}
use Rattle.ftl_nest_check.proofs.places.placed.PlacedNests.inner.Goals as goal

pub returns : goal.returns
returns c =
    let s = c.args.self.now in
    let at = c.outer-place.result in
    let rows : c.as_slice.result.now ≡ inner_entries s = grind (arith, common_steps) in
    let behind : c.saturating_sub-behind.result
    ≡ at.index - length (nesting_pass (nests_of s) at.stage at.pass).attributes =
    grind (arith, common_steps) in
    record {
      place =
          ap schedule_place_meant c.place_in_stages.ensures.place
          ∙ ap (λ these. schedule_place_meant (place_in_stages these at.stage at.pass c.saturating_sub-behind.result)) rows
          ∙ ap (λ n. schedule_place_meant (place_in_stages (inner_entries s) at.stage at.pass n)) behind
          ∙ ap (λ (p : SchedulePlace). schedule_place_meant
          (place_in_stages (inner_entries s) p.stage p.pass
          (p.index - length (nesting_pass (nests_of s) p.stage p.pass).attributes))) c.outer-place.ensures.place
          ∙ inner_is s c.args.attr c.requires.hosted;
    }
