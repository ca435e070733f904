use Rattle.std.proofs.Common.{string_bytes}
use Rattle.ftl_answer.specs.answers.Texts.{noncircular_grammar}
use Rattle.ftl_meaning.specs.faults.Checked.{CheckedGrammar}
use Rattle.ftl_answer.specs.reading.requests.ShownTexts.{text_shown}
use Rattle.ftl_answer.proofs.reading.requests.Endings.{end_first, end_second}
use Rattle.ftl_run.specs.calls.DemandedPages.{document_stage}
use Rattle.ftl_run.proofs.calls.demand.grammar_by_demand.Goals as goal

pub returns-in-Ok : goal.returns-in-Ok
returns-in-Ok c =
    let k = c.args.checked.now in
    record {
      outcome =
          end_second (noncircular_grammar k)
          (λ _. document_stage k (string_bytes c.args.document) (text_shown c.args.shown.now)) c.in-Ok.found
          c.document_by_demand.result c.in-Ok.ensures.outcome c.document_by_demand.ensures.outcome;
    }

pub returns-in-Err : goal.returns-in-Err
returns-in-Err c =
    let k = c.args.checked.now in
    record {
      outcome =
          end_first (noncircular_grammar k)
          (λ _. document_stage k (string_bytes c.args.document) (text_shown c.args.shown.now))
          (λ (n : CheckedGrammar). n) c.in-Err.end c.in-Err.ensures.outcome;
    }
