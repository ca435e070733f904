use Rattle.std.proofs.Common.{◌≡◌, ◌++◌, string_bytes, map, drop}
use Rattle.ftl_tokens.specs.writing.Written.{text_of}
use Rattle.ftl_nest_text.specs.text.NestText.{nesting_stage_written}
use Rattle.ftl_nest_text.specs.printing.NestWritten.{nesting_pass_by_name}
use Rattle.ftl_nest_text.proofs.printing.print.write_nesting_passes.Given as goal

abbrev pub invariant-loop-number : goal.invariant-loop-number
invariant-loop-number l =
    string_bytes l.out
    ++ text_of (nesting_stage_written l.gap (map (nesting_pass_by_name l.checked.grammar) (drop l.number l.passes)))
    ≡ string_bytes l.fn.out
    ++ text_of (nesting_stage_written l.gap (map (nesting_pass_by_name l.checked.grammar) l.passes))
