use Rattle.std.proofs.Common.{◌≡◌, ◌∙◌, IfOk, ap, sym, subst}
use Rattle.ftl_meaning.specs.faults.Checked.{CheckedGrammar}
use Rattle.ftl_deps.specs.reads.Meant.{meant}
use Rattle.ftl_step_value.specs.limits.faults.PlanFaults.{first_fault}
use Rattle.ftl_order.specs.orders.Schedule.{Schedule}
use Rattle.ftl_schedule.specs.stages.PassLimits.{IsWithinPassLimits}
use Rattle.ftl_schedule.specs.stages.Stages.{stages_of}
use Rattle.ftl_nests.specs.Nests.{outer_schedule}
use Rattle.ftl_nest_check.specs.stages.Nested.{nests_of}
use Rattle.ftl_nest_check.specs.declared.stages.types.NestingSchedule.{NestingSchedule}
use Rattle.ftl_nest_check.proofs.check.OuterLimits.{outer_limits}
use Rattle.ftl_answer.proofs.reading.sections.limits.fault_of.Goals as goal

pub first_fault-requires-clause-limits : goal.first_fault-requires-clause-limits
first_fault-requires-clause-limits c =
    let s = c.args.accepted.now.schedule in
    let is : stages_of c.outer_placed.result.now ≡ outer_schedule (nests_of s) =
    c.outer_placed.ensures.outer
    ∙ ap (λ (x : NestingSchedule). outer_schedule (nests_of x)) c.placed.ensures.schedule in
    subst IsWithinPassLimits (sym is) (outer_limits (nests_of s) c.schedule-limits.ensures.asked.limits)

pub returns : goal.returns
returns c =
    let s = c.args.accepted.now.schedule in
    let t = c.args.tree.now in
    let is : stages_of c.outer_placed.result.now ≡ outer_schedule (nests_of s) =
    c.outer_placed.ensures.outer
    ∙ ap (λ (x : NestingSchedule). outer_schedule (nests_of x)) c.placed.ensures.schedule in
    record {
      fault =
          subst
          (λ (k : CheckedGrammar).
          IfOk c.first_fault.result (λ fault. fault ≡ first_fault (meant k) (outer_schedule (nests_of s)) t.tree))
          c.requires.grammar
          (subst
          (λ (p : Schedule). IfOk c.first_fault.result (λ fault. fault ≡ first_fault (meant t.checked) p t.tree)) is
          c.first_fault.ensures.fault);
    }
