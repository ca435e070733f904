use Rattle.ftl_answer.specs.answers.Answers.{obeyed}
use Rattle.ftl_page.specs.declared.commands.command.Command.TheVariants as command
use Rattle.ftl_answer.proofs.reading.requests.ReadBytes.{answered_comes}
use Rattle.ftl_answer.proofs.reading.requests.words.explanation.Goals as goal

pub returns : goal.returns
returns c = record {
  comes =
      answered_comes (obeyed command.Explain c.args.bytes.now) c.in_ok-page_explained.field-0
      c.in_ok-page_explained.ensures.outcome;
}
