use Rattle.ftl_deps.specs.reads.Meant.{meant}
use Rattle.ftl_regions.specs.hosts.Steps.{AreStepsBelow}
use Rattle.ftl_regions.proofs.hosts.steps.steps_of.Given as goal

abbrev pub invariant-loop-class : goal.invariant-loop-class
invariant-loop-class l = AreStepsBelow (meant l.checked) l.class l.steps
