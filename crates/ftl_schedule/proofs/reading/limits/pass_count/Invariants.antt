use Rattle.std.proofs.Common.{◌≡◌, ◌+◌, drop}
use Rattle.ftl_schedule.specs.reading.Limits.{pass_count}
use Rattle.ftl_schedule.proofs.reading.limits.pass_count.Given as goal

abbrev pub invariant-loop-stage : goal.invariant-loop-stage
invariant-loop-stage l = l.count + pass_count (drop l.stage-index l.stages) ≡ pass_count l.stages
