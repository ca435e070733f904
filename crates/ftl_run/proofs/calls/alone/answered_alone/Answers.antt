use Rattle.std.proofs.Common.{Ok}
use Rattle.ftl_answer.specs.answers.Answers.{solved_anew}
use Rattle.ftl_answer.specs.reading.requests.Requests.{problem_stage}
use Rattle.ftl_answer.proofs.reading.requests.Endings.{if_ended}
use Rattle.ftl_run.proofs.calls.Leading.{edit_answered, page_answered}
use Rattle.ftl_run.proofs.calls.alone.answered_alone.Goals as goal

pub returns-in_ok-ended-in-Solve : goal.returns-in_ok-ended-in-Solve
returns-in_ok-ended-in-Solve c = record {
  answered =
      page_answered c.args.requested c.in_ok-decided.field-0 c.in-Solve.problem c.in_ok-ended-in-Solve.field-0
      c.in_ok-decided.was c.in-Solve.is
      (if_ended (problem_stage c.in-Solve.problem) c.solved_alone.result (Ok c.in_ok-ended-in-Solve.field-0) c.solved_alone.ensures.outcome
      c.in_ok-ended-in-Solve.ensures.end);
}

pub returns-in_ok-ended-in-Edit : goal.returns-in_ok-ended-in-Edit
returns-in_ok-ended-in-Edit c = record {
  answered =
      edit_answered c.args.requested c.in_ok-decided.field-0 c.in-Edit.page c.in_ok-ended-in-Edit.field-0
      c.in_ok-decided.was c.in-Edit.is
      (if_ended (solved_anew c.in-Edit.page.bytes.items) c.edited_alone.result (Ok c.in_ok-ended-in-Edit.field-0)
      c.edited_alone.ensures.outcome c.in_ok-ended-in-Edit.ensures.end);
}
