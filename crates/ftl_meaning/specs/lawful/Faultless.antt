-- Grammars without a fault: as they are written, and as tokens spell them.
use Rattle.std.specs.Prelude.{◌≡◌, None}
use Rattle.ftl_tokens.specs.reading.Reader.{Tokens}
use Rattle.ftl_grammar.specs.syntax.GrammarSpelling.{SpellsGrammar}
use Rattle.ftl_grammar.specs.declared.syntax.rules.Grammar.{Grammar}
use Rattle.ftl_meaning.specs.faults.FirstFault.{first_fault}
use Rattle.ftl_meaning.specs.faults.Kinds.{HasKinds}

-- no fault is found, and each attribute is declared by a word that may stand there
pub record IsFaultless (g : Grammar) : Type 0 where
  pub faults : first_fault g ≡ None
  pub kinds : HasKinds g

-- some tokens spell the grammar
abbrev pub IsSpelled : Grammar → Type 0
IsSpelled g = (tokens : Tokens) × SpellsGrammar tokens g

-- what is spelled and has no fault
abbrev pub SpelledAreFaultless : Type 0
SpelledAreFaultless = (g : Grammar) → IsSpelled g → first_fault g ≡ None → IsFaultless g
