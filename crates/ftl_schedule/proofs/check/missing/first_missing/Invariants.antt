use Rattle.std.proofs.Common.{◌≡◌, drop}
use Rattle.std.specs.List.{range_with_len}
use Rattle.ftl_model.specs.lists.FirstAlong.{first_along}
use Rattle.ftl_order.specs.orders.Schedule.{entries}
use Rattle.ftl_schedule.specs.stages.Stages.{stages_of}
use Rattle.ftl_order.specs.faults.FirstFault.{first_missing, missing_fault}
use Rattle.ftl_deps.specs.reads.Meant.{meant}
use Rattle.ftl_schedule.proofs.check.missing.first_missing.Given as goal

abbrev pub invariant-loop-attr : goal.invariant-loop-attr
invariant-loop-attr l =
    first_along (missing_fault (meant l.checked) (entries (stages_of l.placed)))
    (drop l.attr (range_with_len 0 (meant l.checked).attribute_count))
    ≡ first_missing (meant l.checked) (entries (stages_of l.placed))
