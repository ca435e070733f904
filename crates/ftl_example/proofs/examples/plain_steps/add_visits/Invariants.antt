use Rattle.std.proofs.Common.{◌≡◌, ◌++◌, length}
use Rattle.ftl_cursors.specs.visits.NodeRanges.{nodes_in}
use Rattle.ftl_cursors.specs.visits.VisitSteps.{steps_of_nodes}
use Rattle.ftl_deps.specs.reads.Meant.{meant}
use Rattle.ftl_model.specs.layout.Tree.{size}
use Rattle.ftl_example.proofs.examples.plain_steps.add_visits.Given as goal

abbrev pub invariant-loop-step : goal.invariant-loop-step
invariant-loop-step l =
    l.steps.items ++ l.left
    ≡ l.initial.steps.items
    ++ steps_of_nodes (meant l.fn.tree.checked) l.fn.tree.tree l.fn.visits (nodes_in l.fn.order 0 (size l.fn.tree.tree))

abbrev pub decreases-loop-step : goal.decreases-loop-step
decreases-loop-step l = length l.left
