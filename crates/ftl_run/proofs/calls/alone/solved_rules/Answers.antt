use Rattle.std.proofs.Common.{subst, ℕ, List}
use Rattle.ftl_answer.specs.answers.Answers.{text_or_none}
use Rattle.ftl_answer.specs.answers.Texts.{schedule}
use Rattle.ftl_nest_check.specs.check.NestAccepted.{AcceptedNestingSchedule}
use Rattle.ftl_answer.specs.reading.requests.RulesAnswers.{EndsIn}
use Rattle.ftl_answer.proofs.reading.requests.Endings.{end_first, end_second}
use Rattle.ftl_run.specs.calls.SolvedPages.{document_stage}
use Rattle.ftl_run.proofs.calls.alone.solved_rules.Goals as goal

pub returns-in-Ok : goal.returns-in-Ok
returns-in-Ok c =
    let r = c.args.rules in
    record {
      outcome =
          end_second (schedule r.checked r.schedule)
          (λ s. document_stage r.checked s (text_or_none r.document) c.args.task) c.in-Ok.accepted.schedule
          c.solved_document.result c.in-Ok.ensures.outcome
          (subst
          (λ (document : List ℕ).
          EndsIn (document_stage r.checked c.in-Ok.accepted.schedule document c.args.task) c.solved_document.result)
          c.text_of-document.ensures.text c.solved_document.ensures.outcome);
    }

pub returns-in-Err : goal.returns-in-Err
returns-in-Err c =
    let r = c.args.rules in
    record {
      outcome =
          end_first (schedule r.checked r.schedule)
          (λ s. document_stage r.checked s (text_or_none r.document) c.args.task) (λ (a : AcceptedNestingSchedule). a.schedule)
          c.in-Err.end c.in-Err.ensures.outcome;
    }
