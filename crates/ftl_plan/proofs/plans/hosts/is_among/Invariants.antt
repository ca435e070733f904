use Rattle.ftl_plan.proofs.plans.hosts.is_among.Given as goal

abbrev pub invariant-loop-host : goal.invariant-loop-host
invariant-loop-host l = Unit {0}
