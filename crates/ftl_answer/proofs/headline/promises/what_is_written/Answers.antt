use Rattle.ftl_answer.proofs.headline.Written.{completes_commands, ends_as_answered}
use Rattle.ftl_answer.proofs.headline.Written.{stops_at_a_read_fault, stops_without_memory, write_faults_have_causes}
use Rattle.ftl_answer.proofs.headline.Written.{writes_some_answer, writes_the_answer}
use Rattle.ftl_answer.proofs.headline.promises.what_is_written.Goals as goal

pub returns : goal.returns
returns c = record {
  answer = writes_the_answer c.one_answer.ensures.one;
  completed = completes_commands c.one_answer.ensures.one;
  some = writes_some_answer;
  ended = ends_as_answered c.one_answer.ensures.one;
  write_fault = write_faults_have_causes;
  read_fault = stops_at_a_read_fault;
  want = stops_without_memory;
}
