use Rattle.std.proofs.Common.{ℕ, ◌<◌}
use Rattle.ftl_deps.specs.reads.Meant.{meant}
use Rattle.ftl_order.specs.orders.Schedule.{placing_of}
use Rattle.ftl_schedule.specs.stages.Stages.{stages_of}
use Rattle.ftl_example.specs.pairs.FirstPlace.{HasNone, read_count}
use Rattle.ftl_example.proofs.pairs.first_read.first_read.Given as goal

abbrev pub invariant-loop-rule : goal.invariant-loop-rule
invariant-loop-rule l =
    (m : ℕ) → m < l.rule
    → HasNone (meant l.checked) (placing_of (stages_of l.placed)) m (read_count (meant l.checked) m)
