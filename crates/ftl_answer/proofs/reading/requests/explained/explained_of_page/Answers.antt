use Rattle.ftl_answer.specs.answers.Answers.{explained}
use Rattle.ftl_answer.specs.answers.Texts.{grammar}
use Rattle.ftl_answer.proofs.reading.requests.Endings.{end_second}
use Rattle.ftl_answer.proofs.reading.requests.explained.explained_of_page.Goals as goal

pub returns-in-Ok : goal.returns-in-Ok
returns-in-Ok c = record {
  outcome =
      end_second (grammar c.args.page.width c.args.page.grammar) (λ k. explained k c.args.page.schedule) c.in-Ok.checked
      c.explained_of_text.result c.in-Ok.ensures.outcome c.explained_of_text.ensures.outcome;
}
