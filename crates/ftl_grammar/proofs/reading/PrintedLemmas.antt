-- A grammar that was read is read again from its canonical text.
use Rattle.std.proofs.Common.{◌≡◌, ◌≢◌, ℕ, List, Result, Ok, Err, refl, sym, ap, ap₂, ◌∙◌, subst}
use Rattle.ftl_tokens.specs.declared.scanner.kind.Token.{Token}
use Rattle.ftl_tokens.specs.scanner.Scan.{Scanning, scan}
use Rattle.ftl_tokens.specs.scanner.Tokenized.{Tokenized, symbols_of}
use Rattle.ftl_grammar.specs.declared.syntax.rules.Grammar.{Grammar}
use Rattle.ftl_tokens.specs.reading.Depth.{IsShallow}
use Rattle.ftl_grammar.specs.syntax.Brackets.{brackets, limit}
use Rattle.ftl_grammar.specs.syntax.GrammarSpelling.{SpellsGrammar}
use Rattle.ftl_grammar.specs.printing.GrammarTokens.{grammar_text}
use Rattle.ftl_grammar.specs.printing.TextOf.{IsTextOf}
use Rattle.ftl_grammar.proofs.printing.CanonicalTexts.{canonical_text}
use Rattle.ftl_grammar.specs.declared.reading.fault.SyntaxFault.{SyntaxFault}
use Rattle.ftl_grammar.specs.declared.reading.fault.SyntaxFault.TheVariants.{OutOfMemory}
use Rattle.ftl_grammar.specs.reading.Read.{IsGrammar, ReadsGrammar}
use Rattle.ftl_grammar.specs.reading.Printed.{IsScanned}
use Rattle.ftl_grammar.proofs.reading.AnswerLemmas.{any_two_answers}

-- a scan that finds these tokens
abbrev found_of : List Token → Scanning
found_of tokens = Ok tokens

-- a text with tokens
abbrev with_tokens : List ℕ → List Token → Tokenized
with_tokens text tokens = record { text = text; tokens = tokens }

-- a text from which a grammar was read is a text of that grammar
is_text : (scanned : Tokenized) (g : Grammar) → IsScanned scanned → IsGrammar scanned g → IsTextOf scanned.text g
is_text scanned g is read =
    record { tokens = scanned.tokens; scanned = is.tokens; shallow = read.shallow; spells = read.spells }

-- what is scanned from a text of a grammar is the grammar's
is_grammar_of : (printed : Tokenized) (text : List ℕ) (g : Grammar) → scan 2147483647 printed.text ≡ Ok printed.tokens
    → printed.text ≡ text → IsTextOf text g → IsGrammar printed g
is_grammar_of printed text g is same of =
    let told : found_of of.tokens ≡ Ok printed.tokens =
    sym of.scanned ∙ ap (scan 2147483647) (sym same) ∙ is in
    let found : of.tokens ≡ printed.tokens = cc told in
    let whole : with_tokens text of.tokens ≡ printed = ap₂ with_tokens (sym same) found in
    record {
      shallow = subst (λ s. IsShallow brackets limit (symbols_of s)) whole of.shallow;
      spells = subst (λ s. SpellsGrammar (symbols_of s) g) whole of.spells;
    }

pub printed_is_scanned : (scanned : Tokenized) (g : Grammar) → IsScanned scanned → ReadsGrammar scanned (Ok g)
    → (tokens : List Token) × (scan 2147483647 (grammar_text g) ≡ Ok tokens)
printed_is_scanned scanned g is read =
    let of = canonical_text scanned.text g is.utf8 (is_text scanned g is read) in
    (of.tokens, of.scanned)

pub printed_is_read : (scanned printed : Tokenized) (g : Grammar) (answer : Result Grammar SyntaxFault)
    → IsScanned scanned → ReadsGrammar scanned (Ok g) → IsScanned printed → printed.text ≡ grammar_text g
    → answer ≢ Err OutOfMemory → ReadsGrammar printed answer → answer ≡ Ok g
printed_is_read scanned printed g answer is read printed_is same told reads =
    let of = canonical_text scanned.text g is.utf8 (is_text scanned g is read) in
    let again = is_grammar_of printed (grammar_text g) g printed_is.tokens same of in
    any_two_answers printed answer (Ok g) told (λ memory. cc) reads again

pub text_is_read : (printed : Tokenized) (g : Grammar) (answer : Result Grammar SyntaxFault)
    → scan 2147483647 printed.text ≡ Ok printed.tokens → IsTextOf printed.text g → answer ≢ Err OutOfMemory
    → ReadsGrammar printed answer → answer ≡ Ok g
text_is_read printed g answer is of told reads =
    any_two_answers printed answer (Ok g) told (λ memory. cc) reads (is_grammar_of printed printed.text g is refl of)
