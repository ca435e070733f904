use Rattle.std.proofs.Common.{subst}
use Rattle.ftl_nest_check.specs.check.NestAccepted.{AcceptedNestingSchedule}
use Rattle.ftl_nest_check.specs.stages.Known.{AreNestingStagesKnown}
use Rattle.ftl_nest_check.proofs.check.NestKnown.{stages_known}
use Rattle.ftl_nest_check.proofs.check.accepted.AcceptedNests.schedule.Goals as goal

-- computed attributes are attributes of the grammar, and hosts are classes
pub returns-clause-known : goal.returns-clause-known
returns-clause-known c =
    subst (λ (a : AcceptedNestingSchedule). AreNestingStagesKnown a.checked.grammar a.schedule.stages) c.self.view_is
    (stages_known c.self.inside.checked.now c.self.inside.placed c.self.invariant.0.may)
