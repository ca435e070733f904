-- Grammars that can be read: those that some text spells.
use Rattle.std.specs.Prelude.{◌<◌, length}
use Rattle.std.specs.List.{AllByRecursion}
use Rattle.ftl_tokens.specs.reading.Depth.{IsShallow}
use Rattle.ftl_tokens.specs.reading.Reader.{Tokens}
use Rattle.ftl_tokens.specs.writing.Written.{CanBeSaid}
use Rattle.ftl_grammar.specs.declared.syntax.rules.Grammar.{Grammar}
use Rattle.ftl_grammar.specs.syntax.Brackets.{brackets, limit}
use Rattle.ftl_grammar.specs.syntax.GrammarSpelling.{SpellsGrammar}

-- tokens that a text can have, as many as 32 bits count and not too deep, spell the grammar
pub record CanBeRead (g : Grammar) : Type 0 where
  pub tokens : Tokens
  pub said : AllByRecursion (CanBeSaid 2147483647) tokens
  pub few : length tokens < 4294967296
  pub shallow : IsShallow brackets limit tokens
  pub spells : SpellsGrammar tokens g
