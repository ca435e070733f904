use Rattle.std.proofs.Common.{◌≡◌, ◌++◌, string_bytes, map, drop}
use Rattle.ftl_tokens.specs.writing.Written.{text_of}
use Rattle.ftl_schedule.specs.text.ScheduleText.{stage_written}
use Rattle.ftl_schedule.specs.printing.WrittenOf.{pass_by_name}
use Rattle.ftl_schedule.proofs.printing.print.write_passes.Given as goal

abbrev pub invariant-loop-number : goal.invariant-loop-number
invariant-loop-number l =
    string_bytes l.out ++ text_of (stage_written l.gap (map (pass_by_name l.checked.grammar) (drop l.number l.passes)))
    ≡ string_bytes l.fn.out ++ text_of (stage_written l.gap (map (pass_by_name l.checked.grammar) l.passes))
