use Rattle.std.proofs.Common.{string_bytes}
use Rattle.ftl_answer.specs.answers.Texts.{grammar}
use Rattle.maugzeris.proofs.refusals.Ways.{told_end}
use Rattle.maugzeris.proofs.rules.grammar.of_text.Goals as goal

pub returns-in-Err : goal.returns-in-Err
returns-in-Err c = record {
  outcome =
      told_end (grammar c.args.width (string_bytes c.args.text)) (λ k. k) (λ g. g) c.in-Err.end c.refusal_of.result
      c.refusal_of.ensures.refusal c.in-Err.ensures.outcome;
}
