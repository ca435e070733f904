-- The texts of a grammar: those from which it is read.
use Rattle.std.specs.Prelude.{◌≡◌, ℕ, List, Ok}
use Rattle.ftl_tokens.specs.declared.scanner.kind.Token.{Token}
use Rattle.ftl_tokens.specs.scanner.Scan.{scan}
use Rattle.ftl_tokens.specs.scanner.Tokenized.{symbols_of}
use Rattle.ftl_tokens.specs.reading.Depth.{IsShallow}
use Rattle.ftl_grammar.specs.declared.syntax.rules.Grammar.{Grammar}
use Rattle.ftl_grammar.specs.syntax.Brackets.{brackets, limit}
use Rattle.ftl_grammar.specs.syntax.GrammarSpelling.{SpellsGrammar}

-- the text has tokens, these are not too deep, and they spell the grammar
pub record IsTextOf (text : List ℕ) (g : Grammar) : Type 0 where
  pub tokens : List Token
  pub scanned : scan 2147483647 text ≡ Ok tokens
  pub shallow : IsShallow brackets limit (symbols_of (record { text = text; tokens = tokens }))
  pub spells : SpellsGrammar (symbols_of (record { text = text; tokens = tokens })) g
