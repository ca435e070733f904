use Rattle.ftl_answer.specs.answers.Answers.{obeyed}
use Rattle.ftl_page.specs.declared.commands.command.Command.TheVariants as command
use Rattle.ftl_answer.proofs.reading.requests.ReadBytes.{answered_comes}
use Rattle.ftl_answer.proofs.reading.requests.words.schedule.Goals as goal

pub returns : goal.returns
returns c = record {
  comes =
      answered_comes (obeyed command.Schedule c.args.bytes.now) c.in_ok-rules_answered.field-0
      c.in_ok-rules_answered.ensures.outcome;
}
