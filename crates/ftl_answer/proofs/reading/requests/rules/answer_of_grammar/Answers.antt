use Rattle.std.proofs.Common.{sym, subst}
use Rattle.ftl_meaning.specs.faults.Checked.{CheckedGrammar}
use Rattle.ftl_nest_check.specs.stages.Known.{AreNestingStagesKnown}
use Rattle.ftl_nest_check.specs.declared.stages.types.NestingSchedule.{NestingSchedule}
use Rattle.ftl_answer.proofs.reading.requests.rules.answer_of_grammar.Goals as goal

pub answer_of_rules-requires : goal.answer_of_rules-requires
answer_of_rules-requires c = record {
  known =
      subst (λ (s : NestingSchedule). AreNestingStagesKnown c.args.checked.now.grammar s.stages)
      (sym c.schedule.ensures.schedule)
      (subst (λ (k : CheckedGrammar). AreNestingStagesKnown k.grammar c.in-Ok.accepted.schedule.stages)
      c.in-Ok.ensures.grammar c.schedule.ensures.known);
}
