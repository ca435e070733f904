use Rattle.std.proofs.Common.{take}
use Rattle.std.specs.List.{All}
use Rattle.ftl_plan.specs.plans.PlannedStages.{HasAll, HasHost, pass_hosts}
use Rattle.ftl_plan.proofs.plans.hosts.add_hosts.Given as goal

abbrev pub invariant-loop-pass : goal.invariant-loop-pass
invariant-loop-pass l = record {
  kept : HasAll l.initial.hosts.items l.hosts.items;
  hosts : All (HasHost l.hosts.items) (pass_hosts (take l.pass-index l.passes));
}
