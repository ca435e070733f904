use Rattle.std.proofs.Common.{subst}
use Rattle.ftl_order.specs.orders.Ordered.{IsOrdered}
use Rattle.ftl_order.specs.automatic.Automatic.{IsAutomatic}
use Rattle.ftl_order.proofs.automatic.Found.{none_where_stuck}
use Rattle.ftl_order.specs.faults.FaultLaws.{AreComputed}
use Rattle.ftl_meaning.specs.lawful.Faultless.{IsFaultless}
use Rattle.ftl_schedule.specs.stages.PassLimits.{IsWithinPassLimits}
use Rattle.ftl_schedule.specs.stages.Stages.{stages_of}
use Rattle.ftl_schedule.specs.declared.stages.types.Schedule.{Schedule}
use Rattle.ftl_deps.specs.reads.Meant.{meant}
use Rattle.ftl_scheduler.specs.outcomes.Outcomes.{IsOutcome}
use Rattle.ftl_scheduler.proofs.finding.AutomaticLimits.{automatic_limits}
use Rattle.ftl_scheduler.proofs.finding.Accepting.{entries_computed, is_ordered, only_memory, same_accepted}
use Rattle.ftl_scheduler.proofs.finding.Targets.{lawful}
use Rattle.ftl_scheduler.proofs.finding.find.find_schedule.Goals as goal

pub returns-in-Stuck-clause-stuck : goal.returns-in-Stuck-clause-stuck
returns-in-Stuck-clause-stuck c = subst (IsOutcome (meant c.args.checked.now)) c.in-Stuck.is c.in_ok-outcome.ensures.outcome

pub returns-in-Stuck-clause-none : goal.returns-in-Stuck-clause-none
returns-in-Stuck-clause-none c =
    let g = meant c.args.checked.now in
    let law = lawful c.args.checked.now c.grammar.ensures.lawful c.grammar.ensures.kinds in
    λ some.
    none_where_stuck g law (c.in-Stuck.attrs, subst (IsOutcome g) c.in-Stuck.is c.in_ok-outcome.ensures.outcome)
    ((c.flat_schedules.ensures.nothing_added g law).0 some)

pub verify-requires-clause-computed : goal.verify-requires-clause-computed
verify-requires-clause-computed c =
    entries_computed (meant c.args.checked.now) (lawful c.args.checked.now c.grammar.ensures.lawful c.grammar.ensures.kinds)
    c.in-Found.schedule (subst (IsOutcome (meant c.args.checked.now)) c.in-Found.is c.in_ok-outcome.ensures.outcome)

pub verify-requires-clause-limits : goal.verify-requires-clause-limits
verify-requires-clause-limits c =
    let k = c.args.checked.now in
    let fine : IsFaultless k.grammar = record { faults = c.grammar.ensures.lawful; kinds = c.grammar.ensures.kinds } in
    let few = c.faultless_grammars_are_small.ensures.limits k.grammar k.width fine in
    let is : IsAutomatic (meant k) (stages_of c.in-Found.schedule) =
    subst (IsOutcome (meant k)) c.in-Found.is c.in_ok-outcome.ensures.outcome in
    automatic_limits (meant k) (stages_of c.in-Found.schedule) is.chain few.attributes

pub returns-in-Ok-clause-found : goal.returns-in-Ok-clause-found
returns-in-Ok-clause-found c =
    let g = meant c.args.checked.now in
    let law = lawful c.args.checked.now c.grammar.ensures.lawful c.grammar.ensures.kinds in
    let is : IsAutomatic g (stages_of c.in-Found.schedule) =
    subst (IsOutcome g) c.in-Found.is c.in_ok-outcome.ensures.outcome in
    subst (λ (x : Schedule). IsAutomatic g (stages_of x))
    (same_accepted g law c.in-Found.schedule is c.faultless_is_ordered.ensures.ordered c.in-Ok.accepted.schedule c.in-Ok.ensures.exact)
    is

pub returns-in-Ok-clause-ordered : goal.returns-in-Ok-clause-ordered
returns-in-Ok-clause-ordered c =
    let g = meant c.args.checked.now in
    let law = lawful c.args.checked.now c.grammar.ensures.lawful c.grammar.ensures.kinds in
    let is : IsAutomatic g (stages_of c.in-Found.schedule) =
    subst (IsOutcome g) c.in-Found.is c.in_ok-outcome.ensures.outcome in
    subst (λ (x : Schedule). IsOrdered g (stages_of x))
    (same_accepted g law c.in-Found.schedule is c.faultless_is_ordered.ensures.ordered c.in-Ok.accepted.schedule c.in-Ok.ensures.exact)
    (is_ordered g law c.in-Found.schedule is)

pub returns-in-Ok-clause-computed : goal.returns-in-Ok-clause-computed
returns-in-Ok-clause-computed c =
    let g = meant c.args.checked.now in
    let law = lawful c.args.checked.now c.grammar.ensures.lawful c.grammar.ensures.kinds in
    let is : IsAutomatic g (stages_of c.in-Found.schedule) =
    subst (IsOutcome g) c.in-Found.is c.in_ok-outcome.ensures.outcome in
    subst (λ (x : Schedule). AreComputed g (stages_of x))
    (same_accepted g law c.in-Found.schedule is c.faultless_is_ordered.ensures.ordered c.in-Ok.accepted.schedule c.in-Ok.ensures.exact)
    (entries_computed g law c.in-Found.schedule is)

pub returns-in-Ok-clause-limits : goal.returns-in-Ok-clause-limits
returns-in-Ok-clause-limits c =
    let k = c.args.checked.now in
    let g = meant k in
    let law = lawful k c.grammar.ensures.lawful c.grammar.ensures.kinds in
    let fine : IsFaultless k.grammar = record { faults = c.grammar.ensures.lawful; kinds = c.grammar.ensures.kinds } in
    let few = c.faultless_grammars_are_small.ensures.limits k.grammar k.width fine in
    let is : IsAutomatic g (stages_of c.in-Found.schedule) =
    subst (IsOutcome g) c.in-Found.is c.in_ok-outcome.ensures.outcome in
    subst (λ (x : Schedule). IsWithinPassLimits (stages_of x))
    (same_accepted g law c.in-Found.schedule is c.faultless_is_ordered.ensures.ordered c.in-Ok.accepted.schedule c.in-Ok.ensures.exact)
    (automatic_limits g (stages_of c.in-Found.schedule) is.chain few.attributes)

pub returns-in-Ok-clause-exists : goal.returns-in-Ok-clause-exists
returns-in-Ok-clause-exists c =
    let g = meant c.args.checked.now in
    let law = lawful c.args.checked.now c.grammar.ensures.lawful c.grammar.ensures.kinds in
    let is : IsAutomatic g (stages_of c.in-Found.schedule) =
    subst (IsOutcome g) c.in-Found.is c.in_ok-outcome.ensures.outcome in
    (c.flat_schedules.ensures.nothing_added g law).1
    (stages_of c.in-Found.schedule, is_ordered g law c.in-Found.schedule is)

-- an ordered schedule has no fault
pub no_memory-requires : goal.no_memory-requires
no_memory-requires c = record {
  memory =
      let g = meant c.args.checked.now in
      let law = lawful c.args.checked.now c.grammar.ensures.lawful c.grammar.ensures.kinds in
      only_memory g law c.in-Found.schedule (subst (IsOutcome g) c.in-Found.is c.in_ok-outcome.ensures.outcome)
      c.faultless_is_ordered.ensures.ordered c.in-Err.fault c.in-Err.ensures.exact;
}
