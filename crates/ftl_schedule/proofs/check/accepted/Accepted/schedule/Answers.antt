use Rattle.std.proofs.Common.{subst}
use Rattle.ftl_deps.specs.reads.Meant.{meant}
use Rattle.ftl_order.specs.faults.FaultLaws.{AreComputed}
use Rattle.ftl_schedule.specs.check.AcceptedSchedule.{AcceptedSchedule}
use Rattle.ftl_schedule.specs.printing.WrittenOf.{AreStagesKnown}
use Rattle.ftl_schedule.specs.stages.Stages.{stages_of}
use Rattle.ftl_schedule.proofs.printing.Known.{computed_known}
use Rattle.ftl_schedule.proofs.check.accepted.Accepted.schedule.Goals as goal

pub returns-clause-computed : goal.returns-clause-computed
returns-clause-computed c =
    subst (λ (a : AcceptedSchedule). AreComputed (meant a.checked) (stages_of a.schedule)) c.self.view_is
    c.self.invariant.computed

-- computed attributes are attributes of the grammar
pub returns-clause-known : goal.returns-clause-known
returns-clause-known c =
    subst (λ (a : AcceptedSchedule). AreStagesKnown a.checked.grammar a.schedule.stages) c.self.view_is
    (computed_known c.self.inside.checked.now c.self.inside.placed c.self.invariant.computed)
