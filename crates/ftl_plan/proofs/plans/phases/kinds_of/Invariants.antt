use Rattle.std.proofs.Common.{◌≡◌, map, take}
use Rattle.ftl_schedule.specs.declared.stages.types.Pass.{Pass}
use Rattle.ftl_plan.proofs.plans.phases.kinds_of.Given as goal

abbrev pub invariant-loop-pass : goal.invariant-loop-pass
invariant-loop-pass l = l.kinds.items ≡ map (λ (p : Pass). p.kind) (take l.pass-index l.passes)
