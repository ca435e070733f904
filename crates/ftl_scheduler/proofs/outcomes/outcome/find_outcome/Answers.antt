use Rattle.std.proofs.Common.{sym, ◌∙◌}
use Rattle.ftl_schedule.specs.stages.Stages.{stages_of}
use Rattle.ftl_scheduler.proofs.outcomes.Left.{automatic_by, stuck_by}
use Rattle.ftl_scheduler.proofs.outcomes.outcome.find_outcome.Goals as goal

pub returns-then-len-eq0 : goal.returns-then-len-eq0
returns-then-len-eq0 c = record {
  outcome = λ g law tables computed.
      automatic_by g c.args.all.now c.in_ok-schedule.taken c.args.size c.requires.usable.down_sized.known computed
      (stages_of c.in_ok-schedule.schedule) c.in_ok-schedule.ensures.taken
      (c.in_ok-schedule.ensures.chain g law tables computed) c.in_ok-left.left c.in_ok-left.ensures.left
      (sym c.len.ensures ∙ c.if-len-eq0.true);
}

pub returns-else-len-eq0 : goal.returns-else-len-eq0
returns-else-len-eq0 c = record {
  outcome = λ g law tables computed.
      stuck_by g c.args.all.now c.in_ok-schedule.taken c.args.size c.requires.usable.down_sized.known computed
      (stages_of c.in_ok-schedule.schedule) c.in_ok-schedule.ensures.taken
      (c.in_ok-schedule.ensures.chain g law tables computed) c.in_ok-left.left c.in_ok-left.ensures.left
      (λ none. c.if-len-eq0.false (c.len.ensures ∙ none));
}
