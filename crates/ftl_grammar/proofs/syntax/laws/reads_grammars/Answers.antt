use Rattle.ftl_grammar.proofs.syntax.Grammars.{read_grammar, grammar_is_read, refused_spells_none, refused_longest_front}
use Rattle.ftl_grammar.proofs.syntax.laws.reads_grammars.Goals as goal

pub returns : goal.returns
returns c = record {
  read = λ tokens left g e. (read_grammar tokens left g e).spells;
  spelled = grammar_is_read;
  refused = refused_spells_none;
  place = refused_longest_front;
}
