use Rattle.std.proofs.Common.{arith, ◌++◌, string_bytes, map}
use Rattle.std.proofs.lemmas.Grind.{common_steps}
use Rattle.ftl_tokens.specs.writing.Written.{text_of}
use Rattle.ftl_nest_text.specs.text.NestText.{nesting_stage_written}
use Rattle.ftl_nest_text.specs.printing.NestWritten.{nesting_pass_by_name}
use Rattle.ftl_schedule.proofs.printing.Joined.{early_written, late_written}
use Rattle.ftl_nest_text.proofs.printing.NestJoined.{nesting_passes_joined}
use Rattle.ftl_nest_text.proofs.printing.print.write_nesting_passes.Goals as goal
use Rattle.ftl_nest_text.proofs.printing.print.write_nesting_passes.Goals.{then-is_last, else-is_last}
use Rattle.ftl_nest_text.proofs.printing.print.write_nesting_passes.Goals.{then-not-is_last+in_ok-write_fixed, else-not-is_last}

pub loop-number-preserved : goal.loop-number-preserved
loop-number-preserved c =
    let joined = nesting_passes_joined c.args.checked.now.grammar c.args.gap.now in
    let ps = c.args.passes.now in
    let n = c.loop-number.number in
    let p = c.index-passes-number.result in
    let out = string_bytes c.loop-number.out in
    let whole = string_bytes c.args.out.now ++ text_of (nesting_stage_written c.args.gap.now (map (nesting_pass_by_name c.args.checked.now.grammar) ps)) in
    elim c.if-is_last.branch [
      | then-is_last v ↦ elim c.if-not-is_last.branch [
        | then-not-is_last+in_ok-write_fixed w ↦ grind (arith, w.if-not-is_last.true, v.if-is_last.true)
        | else-not-is_last w ↦ late_written joined ps n p v.if-is_last.true c.index-passes-number.is out (string_bytes c.if-not-is_last.out) whole
            c.loop-number.invariant (grind (arith, w.out-is, v.behind-is, c.in_ok-write_nesting_pass.ensures.text, common_steps))
      ]
      | else-is_last v ↦ elim c.if-not-is_last.branch [
        | then-not-is_last+in_ok-write_fixed w ↦ early_written joined ps n p (grind (arith, common_steps)) c.index-passes-number.is out
            (string_bytes c.write_nesting_pass.new.out) (string_bytes c.if-not-is_last.out) whole
            c.loop-number.invariant (grind (arith, v.behind-is, c.in_ok-write_nesting_pass.ensures.text, common_steps))
            (grind (arith, w.out-is, w.in_ok-write_fixed.ensures.text, common_steps))
        | else-not-is_last w ↦ grind (arith, v.if-is_last.false, w.if-not-is_last.false)
      ]
    ]
