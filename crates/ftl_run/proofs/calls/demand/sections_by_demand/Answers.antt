use Rattle.std.proofs.Common.{ℕ, List, subst}
use Rattle.ftl_answer.specs.answers.Answers.{document_text}
use Rattle.ftl_answer.specs.answers.Texts.{grammar}
use Rattle.ftl_meaning.specs.faults.Checked.{CheckedGrammar}
use Rattle.ftl_answer.specs.reading.requests.RulesAnswers.{EndsIn}
use Rattle.ftl_answer.specs.reading.requests.ShownTexts.{text_shown}
use Rattle.ftl_answer.proofs.reading.requests.Endings.{end_first, end_second}
use Rattle.ftl_run.specs.calls.DemandedPages.{grammar_stage}
use Rattle.ftl_run.proofs.calls.demand.sections_by_demand.Goals as goal

pub returns-in-Ok : goal.returns-in-Ok
returns-in-Ok c =
    let p = c.args.page in
    let text = text_shown c.args.shown.now in
    record {
      outcome =
          end_second (grammar p.width p.grammar) (λ (k : CheckedGrammar). grammar_stage k (document_text p) text)
          c.in-Ok.checked c.grammar_by_demand.result c.in-Ok.ensures.outcome
          (subst
          (λ (document : List ℕ). EndsIn (grammar_stage c.in-Ok.checked document text) c.grammar_by_demand.result)
          c.text_of.ensures.text c.grammar_by_demand.ensures.outcome);
    }

pub returns : goal.returns
returns c =
    let p = c.args.page in
    record {
      outcome =
          end_first (grammar p.width p.grammar)
          (λ (k : CheckedGrammar). grammar_stage k (document_text p) (text_shown c.args.shown.now))
          (λ (k : CheckedGrammar). k) c.in-Err.end c.in-Err.ensures.outcome;
    }
