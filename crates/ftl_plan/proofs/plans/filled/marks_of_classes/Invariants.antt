use Rattle.std.proofs.Common.{◌≡◌, length}
use Rattle.ftl_plan.specs.plans.FilledStages.{AreClassesSet}
use Rattle.ftl_plan.proofs.plans.filled.marks_of_classes.Given as goal

abbrev pub invariant-loop-node : goal.invariant-loop-node
invariant-loop-node l = (length l.marks.items ≡ l.count) × AreClassesSet l.tree.tree l.node l.marks.items
