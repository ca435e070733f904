use Rattle.std.proofs.Common.{subst}
use Rattle.ftl_answer.specs.answers.Answers.{shown_by}
use Rattle.ftl_answer.specs.answers.Stages.{ends}
use Rattle.ftl_meaning.specs.faults.Checked.{CheckedGrammar}
use Rattle.ftl_answer.specs.reading.sections.Outcomes.{answer_of}
use Rattle.ftl_answer.specs.reading.requests.ShownTexts.{text_shown}
use Rattle.ftl_run.proofs.calls.demand.tree_by_demand.Goals as goal

pub returns : goal.returns
returns c = record {
  outcome =
      subst
      (λ (k : CheckedGrammar). shown_by (text_shown c.args.shown.now) k c.args.tree.now.tree
      (ends (answer_of c.in_ok-table_shown.field-0)))
      c.requires.tree c.in_ok-table_shown.ensures.outcome;
}
