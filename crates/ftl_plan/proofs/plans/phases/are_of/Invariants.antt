use Rattle.std.proofs.Common.{◌≡◌, map, take}
use Rattle.ftl_schedule.specs.declared.stages.types.Pass.{Pass}
use Rattle.ftl_plan.proofs.plans.phases.are_of.Given as goal

abbrev pub invariant-loop-number : goal.invariant-loop-number
invariant-loop-number l = take l.number l.kinds ≡ map (λ (p : Pass). p.kind) (take l.number l.passes)
