-- What the reader of grammar texts answers: the grammar that the tokens spell, or the place at which they go wrong.
use Rattle.std.specs.Prelude.{ℕ, Result, Ok, Err}
use Rattle.ftl_tokens.specs.scanner.Tokenized.{Tokenized, symbols_of}
use Rattle.ftl_tokens.specs.reading.Depth.{IsShallow, IsTooDeepAt}
use Rattle.ftl_tokens.specs.reading.Place.{IsFaultPlace}
use Rattle.ftl_grammar.specs.declared.syntax.rules.Grammar.{Grammar}
use Rattle.ftl_grammar.specs.syntax.Brackets.{brackets, limit}
use Rattle.ftl_grammar.specs.syntax.GrammarSpelling.{SpellsGrammar}
use Rattle.ftl_grammar.specs.declared.reading.fault.SyntaxFault.{SyntaxFault}
use Rattle.ftl_grammar.specs.declared.reading.fault.SyntaxFault.TheVariants.{TooDeep, Syntax, OutOfMemory}

-- the tokens are not too deep, and spell this grammar
pub record IsGrammar (scanned : Tokenized) (g : Grammar) : Type 0 where
  pub shallow : IsShallow brackets limit (symbols_of scanned)
  pub spells : SpellsGrammar (symbols_of scanned) g

-- the tokens are not too deep and spell no grammar, and this is the place at which they go wrong
pub record IsNoGrammar (scanned : Tokenized) (at : ℕ) : Type 0 where
  pub shallow : IsShallow brackets limit (symbols_of scanned)
  pub none : (g : Grammar) → SpellsGrammar (symbols_of scanned) g → ⊥
  pub place : IsFaultPlace SpellsGrammar scanned at

-- a grammar is the one that the tokens spell, and a fault has its cause at its place
abbrev pub ReadsGrammar : Tokenized → Result Grammar SyntaxFault → Type 0
ReadsGrammar scanned (Ok g) = IsGrammar scanned g
ReadsGrammar scanned (Err (TooDeep at)) = IsTooDeepAt brackets limit scanned at
ReadsGrammar scanned (Err (Syntax at)) = IsNoGrammar scanned at
ReadsGrammar scanned (Err OutOfMemory) = Unit {0}
