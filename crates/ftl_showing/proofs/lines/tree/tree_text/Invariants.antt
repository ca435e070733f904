use Rattle.std.proofs.Common.{◌≡◌, flat_map, string_bytes}
use Rattle.std.specs.List.{range_with_len}
use Rattle.ftl_showing.specs.lines.Lines.{tree_line}
use Rattle.ftl_showing.proofs.lines.tree.tree_text.Given as goal

-- the lines so far
abbrev pub invariant-loop-node : goal.invariant-loop-node
invariant-loop-node l = string_bytes l.out ≡ flat_map (tree_line l.fields l.page) (range_with_len 0 l.node)
