use Rattle.std.proofs.Common.{◌≡◌, take}
use Rattle.ftl_cursors.specs.items.StageItems.{hosts_in}
use Rattle.ftl_plan.proofs.plans.phases.hosts_of.Given as goal

abbrev pub invariant-loop-pass : goal.invariant-loop-pass
invariant-loop-pass l = l.hosts.items ≡ take l.pass (hosts_in l.items)
