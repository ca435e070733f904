use Rattle.std.proofs.Common.{◌≡◌, ◌*◌, ◌++◌, min, string_bytes}
use Rattle.std.specs.List.{flat_map, range_with_len}
use Rattle.ftl_boxes.specs.Numbers.{state}
use Rattle.ftl_boxes.specs.Sample.{group_text}
use Rattle.ftl_boxes.proofs.pieces.Sample.page.Given as goal

-- the groups so far
abbrev pub invariant-loop-group : goal.invariant-loop-group
invariant-loop-group l =
    (string_bytes l.out ≡ string_bytes l.initial.out ++ flat_map (group_text l.self.grammar l.self.size) (range_with_len 0 l.group))
    × (l.numbers.state ≡ state l.self.size (2 * min l.self.size (8 * l.group)))
