use Rattle.std.proofs.Common.{take}
use Rattle.ftl_deps.specs.reads.Meant.{meant}
use Rattle.ftl_plan.specs.plans.PlannedStages.{AreStagesKept}
use Rattle.ftl_plan.proofs.plans.stages.kept_stages.Given as goal

abbrev pub invariant-loop-stage : goal.invariant-loop-stage
invariant-loop-stage l =
    AreStagesKept (meant l.checked) l.items (take l.stage-index l.stages) l.kept.items
