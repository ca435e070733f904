use Rattle.ftl_answer.specs.answers.Answers.{whole_page}
use Rattle.ftl_run.specs.declared.calls.task.Task.TheVariants.{Show}
use Rattle.ftl_run.proofs.calls.Leading.{rules_end, solved_rules}
use Rattle.ftl_run.proofs.calls.workers.solved_page.Goals as goal

pub returns-in-Ok : goal.returns-in-Ok
returns-in-Ok g c = record {
  outcome =
      solved_rules whole_page c.args.bytes.items (λ _. Show c.args.shown) c.in-Ok.page c.solved_rules.result
      c.in-Ok.ensures.outcome c.solved_rules.ensures.outcome;
}

pub returns-in-Err : goal.returns-in-Err
returns-in-Err g c = record {
  outcome = rules_end whole_page c.args.bytes.items (λ _. Show c.args.shown) c.in-Err.end c.in-Err.ensures.outcome;
}
