-- From what the reading function answers to the words of the syntax.
use Rattle.std.proofs.Common.{◌≡◌, ℕ, ◌-◌, length, Ok, Err}
use Rattle.ftl_tokens.specs.scanner.Tokenized.{Tokenized, symbols_of}
use Rattle.ftl_tokens.specs.reading.Reader.{Tokens}
use Rattle.ftl_tokens.specs.reading.Depth.{IsShallow}
use Rattle.ftl_tokens.specs.reading.Place.{place_of}
use Rattle.ftl_grammar.specs.declared.syntax.rules.Grammar.{Grammar}
use Rattle.ftl_grammar.specs.syntax.Brackets.{brackets, limit}
use Rattle.ftl_grammar.specs.syntax.GrammarReading.{grammar}
use Rattle.ftl_grammar.proofs.syntax.Grammars.{read_grammar, refused_spells_none, refused_place}
use Rattle.ftl_grammar.specs.reading.Read.{IsGrammar, IsNoGrammar}

-- what is read is spelled
pub is_grammar : (scanned : Tokenized) (g : Grammar) (left : Tokens) → IsShallow brackets limit (symbols_of scanned)
    → grammar (symbols_of scanned) ≡ Ok (g, left) → IsGrammar scanned g
is_grammar scanned g left shallow e =
    record { shallow = shallow; spells = (read_grammar (symbols_of scanned) left g e).spells }

-- tokens that are refused go wrong at the refused one
pub is_no_grammar : (scanned : Tokenized) (rest : Tokens) (left at : ℕ) → IsShallow brackets limit (symbols_of scanned)
    → grammar (symbols_of scanned) ≡ Err rest → left ≡ length rest
    → at ≡ place_of scanned.tokens (length scanned.tokens - left) → IsNoGrammar scanned at
is_no_grammar scanned rest left at shallow e count place = record {
  shallow = shallow;
  none = refused_spells_none (symbols_of scanned) rest shallow e;
  place = refused_place rest shallow e left count place;
}
