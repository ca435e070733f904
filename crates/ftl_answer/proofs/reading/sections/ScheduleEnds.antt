-- What is handed on, and the refusals of faults.
use Rattle.std.proofs.Common.{◌≡◌, refl, ap, Option, Some, None, Ok, Err}
use Rattle.ftl_order.specs.declared.faults.fault.VerifyFault.{VerifyFault}
use Rattle.ftl_nest_check.specs.declared.stages.types.NestingSchedule.{NestingSchedule}
use Rattle.ftl_nest_check.specs.places.NestPlaced.{verdict_on}
use Rattle.ftl_answer.specs.answers.Answer.{Answer}
use Rattle.ftl_answer.specs.answers.Stages.{Outcome, ends, hands_on, unless}
use Rattle.ftl_answer.proofs.reading.sections.Ways.{may_end}

-- the end, at an outcome of this type
abbrev ended : (X : Type 0) → Answer → Outcome X
ended X a = ends a

-- the schedule is handed on that is accepted
pub schedule_handed : (tell : VerifyFault → Answer) (o : Option VerifyFault) (s t : NestingSchedule)
    → verdict_on o s ≡ Ok t → hands_on t ≡ unless tell o s
schedule_handed tell None s t e = ap hands_on cc
schedule_handed tell (Some x) s t e = absurd cc

-- it is the one that was looked at
pub same_schedule : (o : Option VerifyFault) (s t : NestingSchedule) → verdict_on o s ≡ Ok t → s ≡ t
same_schedule None s t e = cc
same_schedule (Some x) s t e = absurd cc

-- it has no fault
pub no_fault : (o : Option VerifyFault) (s t : NestingSchedule) → verdict_on o s ≡ Ok t → o ≡ None
no_fault None s t e = refl
no_fault (Some x) s t e = absurd cc

-- its fault is refused
pub schedule_ends : (tell : VerifyFault → Answer) (o : Option VerifyFault) (s : NestingSchedule) (x : VerifyFault)
    → verdict_on o s ≡ Err x → ended NestingSchedule (tell x) ≡ unless tell o s
schedule_ends tell None s x e = absurd cc
schedule_ends tell (Some y) s x e = ap (λ (f : VerifyFault). ended NestingSchedule (tell f)) cc

-- the steps of a schedule that is verified
pub ruleset schedule_steps = (schedule_handed, same_schedule, schedule_ends, no_fault, may_end)
