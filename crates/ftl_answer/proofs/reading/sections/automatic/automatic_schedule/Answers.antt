use Rattle.std.proofs.Common.{Result, ap, subst}
use Rattle.std.specs.Prelude.{IfErr}
use Rattle.ftl_answer.specs.answers.Answer as answer
use Rattle.ftl_answer.specs.answers.Texts.{automatic_schedule}
use Rattle.ftl_answer.specs.refusals.ScheduleLines.{stuck_line}
use Rattle.ftl_deps.specs.reads.Meant.{meant}
use Rattle.ftl_nest_check.specs.check.NestAccepted.{AcceptedNestingSchedule}
use Rattle.ftl_schedule.specs.check.AcceptedSchedule.{AcceptedSchedule}
use Rattle.ftl_schedule.specs.stages.Stages.{stages_of}
use Rattle.ftl_scheduler.specs.finding.Finds.{IsStuckBy}
use Rattle.ftl_scheduler.specs.declared.finding.fault.FindFault.{FindFault}
use Rattle.ftl_answer.proofs.reading.sections.Ways.{may_end}
use Rattle.ftl_answer.proofs.reading.sections.automatic.automatic_schedule.Goals as goal

-- it nests nothing
pub returns-in-Ok-clause-outcome : goal.returns-in-Ok-clause-outcome
returns-in-Ok-clause-outcome c =
    (stages_of c.in-Ok.accepted.schedule, c.in-Ok.ensures.found, c.in_ok-accepted_plain-in-Ok.ensures.schedule)

-- the attributes that are left are told
pub returns-in-Err-Stuck-clause-outcome : goal.returns-in-Err-Stuck-clause-outcome
returns-in-Err-Stuck-clause-outcome c =
    let k = c.args.checked.now in
    let told : IfErr c.find_schedule.result (IsStuckBy (meant k)) = c.find_schedule.ensures.stuck in
    may_end (automatic_schedule k) (λ (s : AcceptedNestingSchedule). s.schedule)
    (answer.refused 6 (stuck_line k.grammar c.as_slice.result.now)) c.stuck.result c.stuck.ensures.ends (
      c.in-Err-Stuck.attrs,
      subst (IsStuckBy (meant k)) c.in-Err-Stuck.field-0-is
          (subst (λ (r : Result AcceptedSchedule FindFault). IfErr r (IsStuckBy (meant k))) c.in-Err-Stuck.is told),
      ap (λ left. answer.refused 6 (stuck_line k.grammar left)) c.as_slice.ensures,
    )
