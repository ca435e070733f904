use Rattle.ftl_deps.specs.reads.Meant.{meant}
use Rattle.ftl_regions.proofs.hosts.StepLaws.{AreStepsTo}
use Rattle.ftl_regions.proofs.hosts.steps.add_steps.Given as goal

abbrev pub invariant-loop-child : goal.invariant-loop-child
invariant-loop-child l = AreStepsTo (meant l.checked) l.class l.child l.steps
