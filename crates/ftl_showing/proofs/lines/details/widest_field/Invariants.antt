use Rattle.std.proofs.Common.{◌≡◌, length, map, take}
use Rattle.ftl_showing.specs.lines.Details.{greatest}
use Rattle.ftl_showing.specs.lines.Lines.{field_on}
use Rattle.ftl_showing.proofs.lines.details.widest_field.Given as goal

-- the longest so far
abbrev pub invariant-loop-attr : goal.invariant-loop-attr
invariant-loop-attr l =
    l.widest ≡ greatest (map (λ a. length (field_on l.page l.node a)) (take l.attr-index l.attributes))
