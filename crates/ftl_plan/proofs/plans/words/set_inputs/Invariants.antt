use Rattle.std.proofs.Common.{take}
use Rattle.ftl_deps.specs.reads.Meant.{meant}
use Rattle.ftl_model.specs.layout.Path.{node_at}
use Rattle.ftl_plan.specs.plans.InputWords.{AreSet}
use Rattle.ftl_plan.proofs.plans.words.set_inputs.Given as goal

abbrev pub invariant-loop-place : goal.invariant-loop-place
invariant-loop-place l =
    AreSet (meant l.tree.checked) l.tree.tree (node_at l.tree.tree l.node) (take l.place l.row)
    l.initial.words l.words
