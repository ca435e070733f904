use Rattle.std.proofs.Common.{◌≡◌, drop}
use Rattle.ftl_host_cursors.specs.NestTables.{nest_steps_left}
use Rattle.ftl_host_cursors.proofs.nest_cursor.step_at.Given as goal

abbrev pub invariant-loop-before : goal.invariant-loop-before
invariant-loop-before l = nest_steps_left l.steps ≡ drop l._before (nest_steps_left l.fn.steps)
