use Rattle.std.proofs.Common.{◌≡◌, ◌-◌, length}
use Rattle.std.specs.List.{range_with_len}
use Rattle.ftl_model.specs.lists.FirstAlong.{first_along}
use Rattle.ftl_step_value.specs.limits.faults.StageReads.{wide_by}
use Rattle.ftl_step_value.proofs.limits.faults.limits.first_too_wide.Given as goal

abbrev pub invariant-loop-stage : goal.invariant-loop-stage
invariant-loop-stage l =
    first_along (wide_by l.counts) (range_with_len l.stage (length l.counts - l.stage))
    ≡ first_along (wide_by l.counts) (range_with_len 0 (length l.counts))
