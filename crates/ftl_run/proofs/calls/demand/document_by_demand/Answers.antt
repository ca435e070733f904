use Rattle.std.proofs.Common.{string_bytes}
use Rattle.ftl_answer.specs.answers.Answers.{shown_by}
use Rattle.ftl_answer.specs.answers.Texts.{grown_tree}
use Rattle.ftl_answer.specs.reading.requests.ShownTexts.{text_shown}
use Rattle.ftl_answer.proofs.reading.requests.Endings.{end_second}
use Rattle.ftl_run.proofs.calls.demand.document_by_demand.Goals as goal

pub returns-in-Ok : goal.returns-in-Ok
returns-in-Ok c = record {
  outcome =
      end_second (grown_tree c.args.checked.now (string_bytes c.args.document))
      (shown_by (text_shown c.args.shown.now) c.args.checked.now) c.in-Ok.tree.tree c.tree_by_demand.result
      c.in-Ok.ensures.outcome c.tree_by_demand.ensures.outcome;
}
