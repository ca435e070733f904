use Rattle.ftl_deps.specs.reads.Meant.{meant}
use Rattle.ftl_plan.proofs.plans.InputRows.{AreSetBefore}
use Rattle.ftl_plan.proofs.plans.words.first_words.Given as goal

abbrev pub invariant-loop-node : goal.invariant-loop-node
invariant-loop-node l = AreSetBefore (meant l.tree.checked) l.tree.tree l.node l.words.items
