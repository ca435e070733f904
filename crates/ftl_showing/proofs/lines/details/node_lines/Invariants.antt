use Rattle.std.proofs.Common.{◌≡◌, ◌++◌, flat_map, string_bytes, take}
use Rattle.std.specs.Prelude.{codes}
use Rattle.ftl_showing.specs.lines.Details.{attribute_lines}
use Rattle.ftl_showing.specs.lines.Lines.{head_text}
use Rattle.ftl_showing.proofs.lines.details.node_lines.Given as goal

-- the lines so far
abbrev pub invariant-loop-attr : goal.invariant-loop-attr
invariant-loop-attr l =
    string_bytes l.out
    ≡ (head_text l.page l.node ++ codes "\n")
    ++ flat_map (attribute_lines l.page l.width l.node) (take l.attr-index l.attributes)
