use Rattle.ftl_grammar.proofs.syntax.Grammars.{one_grammar}
use Rattle.ftl_grammar.proofs.syntax.laws.one_grammar.Goals as goal

pub returns : goal.returns
returns c = record {
  same =
      one_grammar;
}
