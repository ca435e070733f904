use Rattle.std.proofs.Common.{◌<◌, ◌≤◌, ℕ}
use Rattle.ftl_model.specs.layout.Path.{kid_at, node_at}
use Rattle.ftl_step_value.proofs.limits.faults.bound.most_kids.Given as goal

abbrev pub invariant-loop-node : goal.invariant-loop-node
invariant-loop-node l = record {
  within : (node : ℕ) → node < l.node → kid_at (node_at l.tree.tree node) < l.most;
  bound : l.most ≤ 4294967296;
}
