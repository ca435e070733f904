use Rattle.ftl_answer.specs.declared.reading.requests.request.Evaluation.TheVariants.{ByDemand, Scheduled}
use Rattle.ftl_run.proofs.calls.Leading.{as_evaluated}
use Rattle.ftl_run.proofs.calls.alone.solved_alone.Goals as goal

pub returns-in-Scheduled : goal.returns-in-Scheduled
returns-in-Scheduled c = record {
  outcome =
      as_evaluated c.args.problem (Scheduled c.in-Scheduled._how) c.solved_page.result c.in-Scheduled.is
      c.solved_page.ensures.outcome;
}

pub returns-in-ByDemand : goal.returns-in-ByDemand
returns-in-ByDemand c = record {
  outcome =
      as_evaluated c.args.problem ByDemand c.page_by_demand.result c.in-ByDemand.is
      c.page_by_demand.ensures.outcome;
}
