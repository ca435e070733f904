use Rattle.ftl_answer.specs.answers.Texts.{automatic_schedule}
use Rattle.ftl_answer.proofs.reading.requests.Explaining.{accepted_ends}
use Rattle.ftl_answer.proofs.reading.requests.explained.automatic_accepted.Goals as goal

pub returns-in-Ok : goal.returns-in-Ok
returns-in-Ok c = record {
  outcome =
      accepted_ends (automatic_schedule c.args.checked.now) c.in-Ok.field-0.schedule c.in_ok-accepted-in-Ok.field-0
      c.in-Ok.ensures.outcome c.in_ok-accepted-in-Ok.ensures.answer;
}
