use Rattle.std.proofs.Common.{◌≡◌, drop}
use Rattle.ftl_model.specs.lists.FirstAlong.{first_along}
use Rattle.ftl_order.specs.orders.Schedule.{placing_of}
use Rattle.ftl_schedule.specs.stages.Stages.{stages_of}
use Rattle.ftl_order.specs.dependencies.DepReads.{rule_reads}
use Rattle.ftl_order.specs.faults.FirstFault.{fault_by, reads_fault, unordered_writer}
use Rattle.ftl_deps.specs.reads.Meant.{meant}
use Rattle.ftl_schedule.specs.check.RuleAt.{rule_at}
use Rattle.ftl_schedule.proofs.check.unordered.reads_fault.Given as goal

abbrev pub invariant-loop-place : goal.invariant-loop-place
invariant-loop-place l =
    first_along
    (λ d. fault_by l.rule (unordered_writer (meant l.checked) (placing_of (stages_of l.placed)) (rule_at (meant l.checked) l.rule) d))
    (drop l.place (rule_reads (meant l.checked) (rule_at (meant l.checked) l.rule)))
    ≡ reads_fault (meant l.checked) (placing_of (stages_of l.placed)) (l.rule, rule_at (meant l.checked) l.rule)
