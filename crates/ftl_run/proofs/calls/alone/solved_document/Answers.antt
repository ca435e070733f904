use Rattle.std.proofs.Common.{string_bytes}
use Rattle.ftl_answer.specs.answers.Texts.{tree}
use Rattle.ftl_answer.proofs.reading.requests.Endings.{end_second}
use Rattle.ftl_run.specs.calls.SolvedPages.{task_stage}
use Rattle.ftl_run.proofs.calls.alone.solved_document.Goals as goal

pub returns-in-Ok : goal.returns-in-Ok
returns-in-Ok c = record {
  outcome =
      end_second (tree c.args.checked.now c.args.accepted.now.schedule (string_bytes c.args.document))
      (task_stage c.args.task c.args.checked.now) c.in-Ok.tree.tree c.solved_tree.result
      c.in-Ok.ensures.outcome c.solved_tree.ensures.outcome;
}
