use Rattle.std.proofs.Common.{◌≡◌}
use Rattle.ftl_answer.proofs.explanations.InstanceRows.{rows_up_to}
use Rattle.ftl_answer.proofs.explanations.rows.instance_rows.Given as goal

-- the rows of the nodes so far
abbrev pub invariant-loop-node : goal.invariant-loop-node
invariant-loop-node l = l.rows.items ≡ rows_up_to l.tree l.node
