use Rattle.ftl_answer.specs.answers.Answers.{rules_alone}
use Rattle.ftl_answer.specs.answers.Stages.{Then}
use Rattle.ftl_answer.specs.answers.Texts.{page}
use Rattle.ftl_answer.specs.reading.requests.RulesAnswers.{answer_of_page}
use Rattle.ftl_answer.proofs.reading.requests.Endings.{if_ended}
use Rattle.ftl_answer.proofs.reading.requests.rules.rules_answered.Goals as goal

pub returns : goal.returns
returns c = record {
  outcome =
      if_ended (Then (page rules_alone c.args.bytes.now) (answer_of_page c.args.output)) c.answer_of_bytes.result
      c.ended.result c.answer_of_bytes.ensures.outcome c.ended.ensures.end;
}
