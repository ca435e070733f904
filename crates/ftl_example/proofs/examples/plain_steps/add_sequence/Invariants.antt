use Rattle.std.proofs.Common.{◌≡◌, ◌++◌, length}
use Rattle.ftl_cursors.specs.inorder.InorderSteps.{inorder_steps}
use Rattle.ftl_deps.specs.reads.Meant.{meant}
use Rattle.ftl_model.specs.layout.Path.{top}
use Rattle.ftl_example.proofs.examples.plain_steps.add_sequence.Given as goal

abbrev pub invariant-loop-step : goal.invariant-loop-step
invariant-loop-step l =
    l.steps.items ++ l.left
    ≡ l.initial.steps.items ++ inorder_steps (meant l.fn.tree.checked) l.fn.tree.tree l.fn.attrs top

abbrev pub decreases-loop-step : goal.decreases-loop-step
decreases-loop-step l = length l.left
