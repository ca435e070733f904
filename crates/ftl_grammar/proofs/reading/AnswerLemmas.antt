-- Each text has one answer.
use Rattle.std.proofs.Common.{◌≡◌, ◌≢◌, ℕ, ◌-◌, length, Result, Ok, Err, ◌⊎◌, inl, inr, refl, ap}
use Rattle.ftl_tokens.specs.scanner.Tokenized.{Tokenized, symbols_of}
use Rattle.ftl_tokens.specs.reading.Reader.{ReadResult}
use Rattle.ftl_tokens.specs.reading.Depth.{IsShallow, IsTooDeepAt}
use Rattle.ftl_tokens.specs.reading.Place.{place_of}
use Rattle.ftl_tokens.proofs.reading.DepthOnce.{not_shallow, one_too_deep, too_deep_or_shallow}
use Rattle.ftl_tokens.proofs.reading.PlacesOnce.{one_place}
use Rattle.ftl_grammar.specs.declared.syntax.rules.Grammar.{Grammar}
use Rattle.ftl_grammar.specs.syntax.Brackets.{brackets, limit}
use Rattle.ftl_grammar.specs.syntax.GrammarReading.{grammar}
use Rattle.ftl_grammar.proofs.syntax.Grammars.{one_grammar}
use Rattle.ftl_grammar.specs.declared.reading.fault.SyntaxFault.{SyntaxFault}
use Rattle.ftl_grammar.specs.declared.reading.fault.SyntaxFault.TheVariants.{TooDeep, Syntax, OutOfMemory}
use Rattle.ftl_grammar.specs.reading.Read.{ReadsGrammar}
use Rattle.ftl_grammar.proofs.reading.ReadLemmas.{is_grammar, is_no_grammar}

-- an answer that is not want of memory
abbrev pub Answer : Tokenized → Type 0
Answer scanned = (answer : Result Grammar SyntaxFault) × (answer ≢ Err OutOfMemory) × ReadsGrammar scanned answer

-- the answer to tokens that are not too deep, by what the reading function gives
shallow_answer : (scanned : Tokenized) → IsShallow brackets limit (symbols_of scanned) → Answer scanned
shallow_answer scanned shallow = by (grammar (symbols_of scanned)) refl
  where
    by : (given : ReadResult Grammar) → grammar (symbols_of scanned) ≡ given → Answer scanned
    by (Ok (g, left)) e = (Ok g, (λ memory. cc), is_grammar scanned g left shallow e)
    by (Err rest) e =
        let at = place_of scanned.tokens (length scanned.tokens - length rest) in
        (Err (Syntax at), (λ memory. cc), is_no_grammar scanned rest (length rest) at shallow e refl refl)

-- a text has an answer
pub some_answer : (scanned : Tokenized) → Answer scanned
some_answer scanned = by (too_deep_or_shallow brackets limit scanned)
  where
    by : ((at : ℕ) × IsTooDeepAt brackets limit scanned at) ⊎ IsShallow brackets limit (symbols_of scanned)
        → Answer scanned
    by (inl deep) = (Err (TooDeep deep.0), (λ memory. cc), deep.1)
    by (inr shallow) = shallow_answer scanned shallow

-- and no other
pub any_two_answers : (scanned : Tokenized) (answer other : Result Grammar SyntaxFault) → answer ≢ Err OutOfMemory
    → other ≢ Err OutOfMemory → ReadsGrammar scanned answer → ReadsGrammar scanned other → answer ≡ other
any_two_answers scanned (Ok g) (Ok h) told other_told a b =
    ap Ok (one_grammar (symbols_of scanned) g h a.spells b.spells)
any_two_answers scanned (Ok g) (Err (TooDeep at)) told other_told a b =
    absurd (not_shallow brackets limit scanned b a.shallow)
any_two_answers scanned (Ok g) (Err (Syntax at)) told other_told a b = absurd (b.none g a.spells)
any_two_answers scanned (Err (TooDeep at)) (Ok h) told other_told a b =
    absurd (not_shallow brackets limit scanned a b.shallow)
any_two_answers scanned (Err (TooDeep at)) (Err (TooDeep there)) told other_told a b =
    ap (λ k. Err (TooDeep k)) (one_too_deep brackets limit scanned a b)
any_two_answers scanned (Err (TooDeep at)) (Err (Syntax there)) told other_told a b =
    absurd (not_shallow brackets limit scanned a b.shallow)
any_two_answers scanned (Err (Syntax at)) (Ok h) told other_told a b = absurd (a.none h b.spells)
any_two_answers scanned (Err (Syntax at)) (Err (TooDeep there)) told other_told a b =
    absurd (not_shallow brackets limit scanned b a.shallow)
any_two_answers scanned (Err (Syntax at)) (Err (Syntax there)) told other_told a b =
    ap (λ k. Err (Syntax k)) (one_place a.place b.place)
any_two_answers scanned (Err OutOfMemory) other told other_told a b = absurd (told refl)
any_two_answers scanned answer (Err OutOfMemory) told other_told a b = absurd (other_told refl)
