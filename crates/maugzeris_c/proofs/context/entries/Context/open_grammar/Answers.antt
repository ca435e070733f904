use Rattle.std.proofs.Common.{◌≡◌, ◌∙◌, Some, sym}
use Rattle.maugzeris_c.proofs.context.Reading.{grammar_refused}
use Rattle.maugzeris_c.specs.context.Opening.{width_of}
use Rattle.maugzeris_c.proofs.context.entries.Context.open_grammar.Goals as goal

pub returns-in-Err : goal.returns-in-Err
returns-in-Err c =
    let is : width_of c.args.width ≡ Some c.in-Some.width = sym c.width_of.ensures.width ∙ c.in-Some.is in
    record {
      opens =
          grammar_refused c.args.self.now c.refuse.new.self c.args.bytes.now c.args.width c.in-Some.width
          c.in-Err.refusal c.refuse.result is c.in-Err.ensures.outcome c.refuse.ensures.refuses;
    }
