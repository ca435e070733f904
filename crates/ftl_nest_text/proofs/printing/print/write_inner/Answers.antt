use Rattle.std.proofs.Common.{arith, ◌++◌, string_bytes, map}
use Rattle.std.proofs.lemmas.Grind.{common_steps}
use Rattle.ftl_tokens.specs.writing.Written.{text_of}
use Rattle.ftl_schedule.specs.printing.WrittenOf.{stage_by_name}
use Rattle.ftl_schedule.proofs.printing.Joined.{early_written, late_written}
use Rattle.ftl_nest_text.specs.text.NestText.{inner_written}
use Rattle.ftl_nest_text.proofs.printing.NestJoined.{inner_joined}
use Rattle.ftl_nest_text.proofs.printing.print.write_inner.Goals as goal
use Rattle.ftl_nest_text.proofs.printing.print.write_inner.Goals.{then-not-is_last+in_ok-write_fixed, else-not-is_last}

pub loop-number-preserved : goal.loop-number-preserved
loop-number-preserved c =
    let joined = inner_joined c.args.checked.now.grammar in
    let ss = c.args.stages.now in
    let n = c.loop-number.number in
    let s = c.index-stages-number.result in
    let out = string_bytes c.loop-number.out in
    let whole = string_bytes c.args.out.now ++ text_of (inner_written (map (stage_by_name c.args.checked.now.grammar) ss)) in
    elim c.if-not-is_last.branch [
      | then-not-is_last+in_ok-write_fixed w ↦ early_written joined ss n s (grind (arith, w.if-not-is_last.true, common_steps))
          c.index-stages-number.is out (string_bytes c.write_passes.new.out) (string_bytes c.if-not-is_last.out) whole
          c.loop-number.invariant (grind (arith, c.as_slice.ensures, c.in_ok-write_passes.ensures.text, common_steps))
          (grind (arith, w.out-is, w.in_ok-write_fixed.ensures.text, common_steps))
      | else-not-is_last w ↦ late_written joined ss n s (grind (arith, w.if-not-is_last.false, common_steps))
          c.index-stages-number.is out (string_bytes c.if-not-is_last.out) whole
          c.loop-number.invariant (grind (arith, w.out-is, c.as_slice.ensures, c.in_ok-write_passes.ensures.text, common_steps))
    ]
