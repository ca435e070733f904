use Rattle.std.proofs.Common.{◌≡◌, ◌++◌, flat_map, string_bytes, take}
use Rattle.ftl_showing.specs.lines.Lines.{field_on}
use Rattle.ftl_showing.proofs.lines.fields.push_fields.Given as goal

-- the fields so far
abbrev pub invariant-loop-attr : goal.invariant-loop-attr
invariant-loop-attr l =
    string_bytes l.out
    ≡ string_bytes l.fn.out ++ flat_map (field_on l.page l.node) (take l.attr-index l.attributes)
