use Rattle.ftl_answer.specs.answers.Answer.{Answer, refused}
use Rattle.ftl_answer.specs.answers.Texts.{lawful_grammar}
use Rattle.ftl_meaning.specs.faults.FirstFault.{first_fault}
use Rattle.ftl_meaning.specs.declared.faults.fault.GrammarFault.{GrammarFault}
use Rattle.ftl_meaning.specs.declared.faults.fault.GrammarFault.TheVariants as faults
use Rattle.ftl_answer.specs.refusals.GrammarLines.{grammar_line}
use Rattle.ftl_answer.proofs.reading.sections.FaultEnds.{grammar_ends, may_refuse}
use Rattle.ftl_answer.proofs.reading.sections.checking.without_fault.Goals as goal

pub returns-in-Err : goal.returns-in-Err
returns-in-Err c =
    let tell : GrammarFault → Answer = λ f. refused 5 (grammar_line f) in
    let g = c.args.grammar in
    let w = c.args.width in
    record {
      outcome =
          may_refuse (lawful_grammar w g) (λ k. k) faults.OutOfMemory tell c.in-Err.fault c.grammar_refused.result
          c.grammar_refused.ensures.ends
          (λ other. grammar_ends tell (first_fault g) w g c.in-Err.fault (c.in-Err.ensures.exact other));
    }
