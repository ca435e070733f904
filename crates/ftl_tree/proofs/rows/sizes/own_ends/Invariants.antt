use Rattle.std.proofs.Common.{◌≡◌}
use Rattle.std.specs.List.{range_with_len}
use Rattle.ftl_tree.proofs.rows.sizes.own_ends.Given as goal

-- the ends so far
abbrev pub invariant-loop-node : goal.invariant-loop-node
invariant-loop-node l = l.ends.items ≡ range_with_len 1 l.node
