use Rattle.std.proofs.Common.{◌≡◌, ◌++◌, drop, filter}
use Rattle.ftl_deps.specs.reads.Meant.{meant}
use Rattle.ftl_example.specs.examples.EarlySteps.{is_in_half}
use Rattle.ftl_order.specs.orders.Schedule.{placing_of}
use Rattle.ftl_schedule.specs.stages.Stages.{stages_of}
use Rattle.ftl_example.proofs.examples.early_steps.add_half.Given as goal

abbrev pub invariant-loop-place : goal.invariant-loop-place
invariant-loop-place l =
    l.order.items
    ++ filter (is_in_half (meant l.tree.checked) (placing_of (stages_of l.placed)) l.tree.tree l.reader l.half)
    (drop l.place l.steps)
    ≡ l.initial.order.items
    ++ filter (is_in_half (meant l.tree.checked) (placing_of (stages_of l.placed)) l.tree.tree l.reader l.half) l.steps
