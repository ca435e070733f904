use Rattle.ftl_schedule.specs.stages.Stages.{kind_of}
use Rattle.ftl_deps.specs.reads.Meant.{meant}
use Rattle.ftl_scheduler.specs.finding.Entered.{AreEnteredTo}
use Rattle.ftl_scheduler.proofs.finding.tables.enter_reads.Given as goal

abbrev pub invariant-loop-place : goal.invariant-loop-place
invariant-loop-place l = AreEnteredTo (meant l.checked) (kind_of l.kind) l.constraints l.rule l.place
