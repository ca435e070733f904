use Rattle.std.proofs.Common.{arith, subst}
use Rattle.ftl_schedule.specs.stages.Stages.{kind_of}
use Rattle.ftl_deps.specs.reads.Meant.{meant}
use Rattle.ftl_scheduler.specs.finding.Entered.{AreEnteredTo}
use Rattle.ftl_scheduler.proofs.finding.Entering.{entered_rule}
use Rattle.ftl_scheduler.proofs.finding.tables.enter_reads.Goals as goal

pub returns : goal.returns
returns c = record {
  entered =
      let low = c.loop-place-test.false in
      let high = c.loop-place.auto.place-end in
      let count = c.read_count-count.ensures.count in
      entered_rule (meant c.args.checked.now) (kind_of c.args.kind) c.loop-place.constraints c.args.rule
      (subst (AreEnteredTo (meant c.args.checked.now) (kind_of c.args.kind) c.loop-place.constraints c.args.rule)
      (omega (arith, low, high, count)) c.loop-place.invariant);
}
