use Rattle.ftl_answer.proofs.summary.Nodes.{AreWithValues}
use Rattle.ftl_answer.proofs.summary.adding.with_node.Given as goal

-- the sums with the values so far
abbrev pub invariant-loop-attr : goal.invariant-loop-attr
invariant-loop-attr l = AreWithValues l.tree l.words l.node l.shown l.fn.sums l.attr-index l.all
