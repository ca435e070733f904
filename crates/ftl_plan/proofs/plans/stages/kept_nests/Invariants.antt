use Rattle.std.proofs.Common.{take}
use Rattle.ftl_deps.specs.reads.Meant.{meant}
use Rattle.ftl_plan.specs.plans.PlannedStages.{AreNestsKept}
use Rattle.ftl_plan.proofs.plans.stages.kept_nests.Given as goal

abbrev pub invariant-loop-pass : goal.invariant-loop-pass
invariant-loop-pass l = AreNestsKept (meant l.index) (take l.pass-index l.passes) l.nests.items
