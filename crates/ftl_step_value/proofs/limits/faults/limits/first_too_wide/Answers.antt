use Rattle.std.proofs.Common.{◌≡◌, ◌<◌, length, None, arith, sym, ◌∙◌}
use Rattle.std.proofs.lemmas.Grind.{common_steps}
use Rattle.ftl_step_value.specs.limits.faults.StageReads.{wide_by}
use Rattle.ftl_step_value.proofs.limits.faults.Faults.{passed}
use Rattle.ftl_step_value.proofs.limits.faults.limits.first_too_wide.Goals as goal

pub loop-stage-preserved : goal.loop-stage-preserved
loop-stage-preserved c =
    let below : c.loop-stage.stage < length c.args.counts.now = grind (arith, common_steps) in
    let none : wide_by c.args.counts.now c.loop-stage.stage ≡ None = grind (arith, common_steps) in
    sym (passed (wide_by c.args.counts.now) c.loop-stage.stage (length c.args.counts.now) below none)
    ∙ c.loop-stage.invariant
