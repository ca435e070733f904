use Rattle.std.proofs.Common.{◌≡◌, ◌++◌, string_bytes, map, drop}
use Rattle.ftl_tokens.specs.writing.Written.{text_of}
use Rattle.ftl_schedule.specs.printing.WrittenOf.{stage_by_name}
use Rattle.ftl_nest_text.specs.text.NestText.{inner_written}
use Rattle.ftl_nest_text.proofs.printing.print.write_inner.Given as goal

abbrev pub invariant-loop-number : goal.invariant-loop-number
invariant-loop-number l =
    string_bytes l.out ++ text_of (inner_written (map (stage_by_name l.checked.grammar) (drop l.number l.stages)))
    ≡ string_bytes l.fn.out ++ text_of (inner_written (map (stage_by_name l.checked.grammar) l.stages))
