use Rattle.maugzeris.specs.rules.RuleTexts.{grammar_text}
use Rattle.maugzeris_c.proofs.context.Reading.{text_then}
use Rattle.maugzeris_c.proofs.context.opening.grammar_of.Goals as goal

pub returns-in-Ok : goal.returns-in-Ok
returns-in-Ok c =
    record {
      outcome =
          text_then c.args.bytes.now c.in-Ok.text.now (grammar_text c.args.width) (λ g. g) c.new.result
          c.in-Ok.ensures.outcome c.new.ensures.outcome;
    }
