use Rattle.std.proofs.Common.{◌≡◌, ◌++◌, drop}
use Rattle.ftl_deps.specs.reads.Meant.{meant}
use Rattle.ftl_example.specs.examples.PlainSteps.{steps_of_passes}
use Rattle.ftl_example.proofs.examples.plain_steps.add_stage.Given as goal

abbrev pub invariant-loop-pass : goal.invariant-loop-pass
invariant-loop-pass l =
    l.steps.items ++ steps_of_passes (meant l.tree.checked) l.tree.tree (drop l.pass l.passes)
    ≡ l.initial.steps.items ++ steps_of_passes (meant l.tree.checked) l.tree.tree l.passes
