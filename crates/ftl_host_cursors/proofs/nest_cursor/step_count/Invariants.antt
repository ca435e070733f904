use Rattle.std.proofs.Common.{◌≡◌, ◌+◌, length}
use Rattle.ftl_host_cursors.specs.NestTables.{nest_steps_left}
use Rattle.ftl_host_cursors.proofs.nest_cursor.step_count.Given as goal

abbrev pub invariant-loop-steps : goal.invariant-loop-steps
invariant-loop-steps l = l.count + length (nest_steps_left l.steps) ≡ length (nest_steps_left l.fn.steps)

abbrev pub decreases-loop-steps : goal.decreases-loop-steps
decreases-loop-steps l = length (nest_steps_left l.steps)
