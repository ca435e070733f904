use Rattle.ftl_answer.specs.answers.Answers.{edited_page}
use Rattle.ftl_run.specs.declared.calls.task.Task.TheVariants.{Edit}
use Rattle.ftl_run.proofs.calls.Leading.{rules_end, solved_rules}
use Rattle.ftl_run.proofs.calls.workers.edited_by_workers.Goals as goal

pub returns-in-Ok : goal.returns-in-Ok
returns-in-Ok g c = record {
  outcome =
      solved_rules edited_page c.args.page.bytes.items (λ text. Edit text) c.in-Ok.page c.solved_rules.result
      c.in-Ok.ensures.outcome c.solved_rules.ensures.outcome;
}

pub returns-in-Err : goal.returns-in-Err
returns-in-Err g c = record {
  outcome = rules_end edited_page c.args.page.bytes.items (λ text. Edit text) c.in-Err.end c.in-Err.ensures.outcome;
}
