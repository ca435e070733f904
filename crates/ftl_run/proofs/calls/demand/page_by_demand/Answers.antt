use Rattle.ftl_answer.specs.answers.Answers.{unscheduled_page}
use Rattle.ftl_answer.specs.answers.Texts.{page}
use Rattle.ftl_page.specs.declared.sections.page.Page.{Page}
use Rattle.ftl_answer.specs.reading.requests.ShownTexts.{text_shown}
use Rattle.ftl_answer.proofs.reading.requests.Endings.{end_first, end_second}
use Rattle.ftl_run.specs.calls.DemandedPages.{page_stage}
use Rattle.ftl_run.proofs.calls.demand.page_by_demand.Goals as goal

pub returns-in-Ok : goal.returns-in-Ok
returns-in-Ok c = record {
  outcome =
      end_second (page unscheduled_page c.args.bytes.items) (λ (p : Page). page_stage p (text_shown c.args.shown.now))
      c.in-Ok.page c.sections_by_demand.result c.in-Ok.ensures.outcome c.sections_by_demand.ensures.outcome;
}

pub returns-in-Err : goal.returns-in-Err
returns-in-Err c = record {
  outcome =
      end_first (page unscheduled_page c.args.bytes.items) (λ (p : Page). page_stage p (text_shown c.args.shown.now))
      (λ (p : Page). p) c.in-Err.end c.in-Err.ensures.outcome;
}
