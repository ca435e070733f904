use Rattle.std.proofs.Common.{◌≡◌, drop}
use Rattle.std.specs.List.{enumerate_from}
use Rattle.ftl_model.specs.lists.FirstAlong.{first_along}
use Rattle.ftl_order.specs.orders.Schedule.{placing_of}
use Rattle.ftl_schedule.specs.stages.Stages.{stages_of}
use Rattle.ftl_order.specs.faults.FirstFault.{first_unordered, reads_fault}
use Rattle.ftl_deps.specs.reads.Meant.{meant}
use Rattle.ftl_schedule.proofs.check.unordered.first_unordered.Given as goal

abbrev pub invariant-loop-rule : goal.invariant-loop-rule
invariant-loop-rule l =
    first_along (reads_fault (meant l.checked) (placing_of (stages_of l.placed)))
    (drop l.rule (enumerate_from 0 (meant l.checked).rules))
    ≡ first_unordered (meant l.checked) (placing_of (stages_of l.placed))
