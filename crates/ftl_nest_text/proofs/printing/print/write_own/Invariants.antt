use Rattle.std.proofs.Common.{◌≡◌, ◌++◌, string_bytes, flat_map, map, take}
use Rattle.ftl_tokens.specs.writing.Written.{text_of}
use Rattle.ftl_schedule.specs.text.ScheduleText.{attribute_written}
use Rattle.ftl_schedule.specs.printing.WrittenOf.{name_of}
use Rattle.ftl_nest_text.proofs.printing.print.write_own.Given as goal

abbrev pub invariant-loop-attr : goal.invariant-loop-attr
invariant-loop-attr l =
    string_bytes l.out
    ≡ string_bytes l.initial.out ++ text_of (flat_map attribute_written (map (name_of l.checked.grammar) (take l.attr-index l.pass.attrs)))
