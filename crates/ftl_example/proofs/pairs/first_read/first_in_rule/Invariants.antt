use Rattle.ftl_deps.specs.reads.Meant.{meant}
use Rattle.ftl_order.specs.orders.Schedule.{placing_of}
use Rattle.ftl_schedule.specs.stages.Stages.{stages_of}
use Rattle.ftl_example.specs.pairs.FirstPlace.{HasNone}
use Rattle.ftl_example.proofs.pairs.first_read.first_in_rule.Given as goal

abbrev pub invariant-loop-place : goal.invariant-loop-place
invariant-loop-place l = HasNone (meant l.checked) (placing_of (stages_of l.placed)) l.rule l.place
