use Rattle.std.proofs.Common.{◌≡◌, ◌++◌, drop}
use Rattle.ftl_example.proofs.examples.placed_copy.schedule_copy.Given as goal

abbrev pub invariant-loop-stage : goal.invariant-loop-stage
invariant-loop-stage l = l.stages ++ drop l.stage l.all ≡ l.fn.schedule.stages
