use Rattle.ftl_deps.specs.reads.Meant.{meant}
use Rattle.ftl_deps.specs.reads.Products.{name_of_info}
use Rattle.ftl_example.specs.examples.ShownSteps.{NoneIsFilled}
use Rattle.ftl_example.proofs.examples.shown_steps.filling_step.Given as goal

abbrev pub invariant-loop-place : goal.invariant-loop-place
invariant-loop-place l =
    NoneIsFilled (meant l.tree.checked) l.tree.tree (name_of_info l.rule) l.cell l.steps l.place
