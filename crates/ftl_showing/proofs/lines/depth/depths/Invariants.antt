use Rattle.std.proofs.Common.{◌≡◌, map}
use Rattle.std.specs.List.{range_with_len}
use Rattle.ftl_showing.specs.lines.Lines.{depth_on}
use Rattle.ftl_showing.proofs.lines.depth.depths.Given as goal

abbrev pub invariant-loop-node : goal.invariant-loop-node
invariant-loop-node l = l.depths.items ≡ map (depth_on l.page) (range_with_len 0 l.node)
