use Rattle.std.proofs.Common.{◌≡◌, ◌++◌, drop}
use Rattle.ftl_plan.specs.plans.PlannedStages.{own_passes}
use Rattle.ftl_plan.proofs.plans.passes.own_passes.Given as goal

abbrev pub invariant-loop-pass : goal.invariant-loop-pass
invariant-loop-pass l = l.own.items ++ own_passes (drop l.pass l.passes) ≡ own_passes l.passes
