use Rattle.ftl_answer.proofs.summary.Nodes.{AreSumsUpTo}
use Rattle.ftl_answer.proofs.summary.adding.sums_of.Given as goal

-- the sums so far
abbrev pub invariant-loop-node : goal.invariant-loop-node
invariant-loop-node l = AreSumsUpTo l.tree l.words l.node l.sums
