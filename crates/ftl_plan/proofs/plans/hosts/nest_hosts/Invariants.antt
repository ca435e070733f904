use Rattle.std.proofs.Common.{take}
use Rattle.std.specs.List.{All}
use Rattle.ftl_plan.specs.plans.PlannedStages.{HasHosts}
use Rattle.ftl_plan.proofs.plans.hosts.nest_hosts.Given as goal

abbrev pub invariant-loop-stage : goal.invariant-loop-stage
invariant-loop-stage l = All (HasHosts l.hosts.items) (take l.stage-index l.stages)
