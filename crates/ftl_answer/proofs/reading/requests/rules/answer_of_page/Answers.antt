use Rattle.ftl_answer.specs.answers.Texts.{grammar}
use Rattle.ftl_answer.specs.reading.requests.RulesAnswers.{answer_of_schedule}
use Rattle.ftl_answer.proofs.reading.requests.Endings.{end_second}
use Rattle.ftl_answer.proofs.reading.requests.rules.answer_of_page.Goals as goal

pub returns-in-Ok : goal.returns-in-Ok
returns-in-Ok c = record {
  outcome =
      end_second (grammar c.args.page.width c.args.page.grammar) (λ k. answer_of_schedule c.args.output k c.args.page)
      c.in-Ok.checked c.answer_of_grammar.result c.in-Ok.ensures.outcome c.answer_of_grammar.ensures.outcome;
}
