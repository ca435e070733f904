use Rattle.std.proofs.Common.{◌∙◌, ap}
use Rattle.ftl_schedule.specs.stages.Stages.{stages_of}
use Rattle.ftl_schedule.specs.declared.stages.types.Schedule.{Schedule}
use Rattle.ftl_nests.specs.Flat.{plain}
use Rattle.ftl_nest_check.proofs.check.PlainAccepted.{plain_accepted}
use Rattle.ftl_nest_check.proofs.check.plain.accepted_plain.Goals as goal

-- it is accepted as one that may have nests
pub placed_with_flat-requires : goal.placed_with_flat-requires
placed_with_flat-requires c =
    let asked = c.schedule.ensures in
    record {
      accepted =
          plain_accepted c.args.accepted.now.checked c.args.checked.now c.args.accepted.now.schedule
          c.in_ok-schedule.schedule c.requires.grammar
          (record { computed = asked.computed; limits = asked.limits; ordered = asked.ordered })
          (c.in_ok-schedule.ensures.plain ∙ ap (λ (s : Schedule). plain (stages_of s)) asked.schedule);
    }
