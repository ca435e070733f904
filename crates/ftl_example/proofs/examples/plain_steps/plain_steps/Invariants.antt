use Rattle.std.proofs.Common.{◌≡◌, ◌++◌, drop, flat_map}
use Rattle.ftl_deps.specs.reads.Meant.{meant}
use Rattle.ftl_example.specs.examples.PlainSteps.{plain_steps, steps_of_stage}
use Rattle.ftl_example.proofs.examples.plain_steps.plain_steps.Given as goal

abbrev pub invariant-loop-stage : goal.invariant-loop-stage
invariant-loop-stage l =
    l.steps.items ++ flat_map (steps_of_stage (meant l.tree.checked) l.tree.tree) (drop l.stage l.stages)
    ≡ plain_steps (meant l.tree.checked) l.tree.tree l.fn.schedule
