use Rattle.std.proofs.Common.{◌≡◌, ◌++◌, drop}
use Rattle.ftl_plan.specs.plans.PlannedStages.{pass_hosts}
use Rattle.ftl_plan.proofs.plans.passes.pass_hosts.Given as goal

abbrev pub invariant-loop-pass : goal.invariant-loop-pass
invariant-loop-pass l = l.hosts.items ++ pass_hosts (drop l.pass l.passes) ≡ pass_hosts l.passes
