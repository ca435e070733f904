use Rattle.ftl_nests.proofs.Plain.{outer_plain}
use Rattle.ftl_answer.proofs.answers.PlainExamples.{plain_examples, plain_pair}
use Rattle.ftl_answer.proofs.answers.PlainFaults.{plain_fault}
use Rattle.ftl_answer.proofs.answers.PlainTexts.{plain_printed, plain_read}
use Rattle.ftl_answer.proofs.answers.plain.plain_schedules.Goals as goal

pub returns : goal.returns
returns c = record {
  read = plain_read;
  fault = plain_fault;
  pair = plain_pair;
  examples = plain_examples;
  outer = outer_plain;
  printed = plain_printed;
}
