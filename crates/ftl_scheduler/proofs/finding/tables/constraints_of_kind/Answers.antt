use Rattle.std.proofs.Common.{arith, subst}
use Rattle.ftl_schedule.specs.stages.Stages.{kind_of}
use Rattle.ftl_deps.specs.reads.Meant.{meant}
use Rattle.ftl_schedule.proofs.check.RuleCount.{rules_counted}
use Rattle.ftl_scheduler.specs.finding.Entered.{AreEnteredTo}
use Rattle.ftl_scheduler.proofs.finding.tables.constraints_of_kind.Goals as goal

pub returns : goal.returns
returns c = record {
  entered =
      let low = c.loop-rule-test.false in
      let high = c.loop-rule.auto.rule-end in
      let count = c.rule_count-rule-end.ensures.count in
      let counted = rules_counted c.args.checked.now c.grammar.ensures.lawful in
      subst (λ r. AreEnteredTo (meant c.args.checked.now) (kind_of c.args.kind) c.loop-rule.constraints r 0)
      (omega (arith, low, high, count, counted)) c.loop-rule.invariant;
}
