-- The canonical text of a grammar that some text spells is a text of the grammar.
use Rattle.std.proofs.Common.{◌≡◌, ℕ, List, [], ◌∷◌, ◌++◌, map, refl, sym, ap, subst, arith, false}
use Rattle.std.specs.Str.{chars, IsUtf8}
use Rattle.std.specs.Str.Parse.{digits_value}
use Rattle.std.proofs.lemmas.Bool.{ltb-false}
use Rattle.std.proofs.lemmas.Str.{IsUtf8-between}
use Rattle.std.specs.List.{AllByRecursion}
use Rattle.std.specs.Prelude.{Some}
use Rattle.ftl_tokens.specs.declared.scanner.kind.Kind.{Kind}
use Rattle.ftl_tokens.specs.declared.scanner.kind.Kind.TheVariants as kind
use Rattle.ftl_tokens.specs.declared.scanner.kind.Token.{Token}
use Rattle.ftl_tokens.specs.scanner.Kinds.{kind_of}
use Rattle.ftl_tokens.specs.scanner.Scan.{is_too_large}
use Rattle.ftl_tokens.specs.scanner.Tokenized.{Symbol, name, number, fixed, symbol, symbol_of, token_text, IsTokenOf}
use Rattle.ftl_tokens.specs.scanner.Tokenized.{AreTokensOf}
use Rattle.ftl_tokens.proofs.scanner.TokenLemmas.{are_tokens_of}
use Rattle.ftl_tokens.specs.reading.Reader.{Tokens}
use Rattle.ftl_tokens.specs.reading.Depth.{IsShallow}
use Rattle.ftl_grammar.specs.declared.syntax.rules.Grammar.{Grammar}
use Rattle.ftl_grammar.specs.syntax.Brackets.{brackets, limit}
use Rattle.ftl_grammar.specs.syntax.GrammarSpelling.{SpellsGrammar}
use Rattle.ftl_tokens.specs.writing.Written.{written_bytes, text_of, said_by, Says, IsSpace, AreSpaced, CanBeSaid}
use Rattle.ftl_tokens.proofs.writing.WrittenScan.{says_written}
use Rattle.ftl_tokens.proofs.writing.SpacedLemmas.{spaced_are_readable}
use Rattle.ftl_grammar.specs.printing.GrammarTokens.{gap_after, spaced, spaced_bytes, spaced_text, grammar_tokens, grammar_text}
use Rattle.ftl_grammar.specs.printing.TextOf.{IsTextOf}
use Rattle.ftl_grammar.specs.reading.Readable.{CanBeRead}
use Rattle.ftl_grammar.proofs.printing.Levels.{Each}
use Rattle.ftl_grammar.proofs.printing.SpelledAttrs.{Said}
use Rattle.ftl_grammar.proofs.printing.SpelledGrammars.{grammar_canonical}

-- what a token of this kind with these bytes says can be said
symbol_said : (kind : Kind) (bytes : List ℕ) → IsUtf8 bytes → kind_of (chars bytes) ≡ Some kind
    → is_too_large 2147483647 kind bytes ≡ false → Said (symbol kind bytes)
symbol_said kind.Name bytes utf8 is small = (utf8, is)
symbol_said kind.Number bytes utf8 is small = ltb-false 2147483647 (digits_value 10 bytes) small
symbol_said _ bytes utf8 is small = tt

token_said : (text : List ℕ) (t : Token) → IsUtf8 text → IsTokenOf 2147483647 text t → Said (symbol_of text t)
token_said text t utf8 is =
    symbol_said t.kind (token_text text t) (IsUtf8-between text t.start t.end utf8 (omega (arith, is.some)) is.begins is.ends)
    is.kind is.small

-- what the tokens of a text say can be said
pub tokens_said : (text : List ℕ) (at : ℕ) (ts : List Token) → IsUtf8 text → AreTokensOf 2147483647 text at ts
    → Each Said (map (symbol_of text) ts)
tokens_said text at [] utf8 are = tt
tokens_said text at (t ∷ ts) utf8 are = (token_said text t utf8 are.1, tokens_said text t.end ts utf8 are.2)

gap_is_space : (t : Symbol) → IsSpace (gap_after t)
gap_is_space (name n) = refl
gap_is_space (number n) = refl
gap_is_space (fixed kind.Semicolon) = refl
gap_is_space (fixed kind.LeftBrace) = refl
gap_is_space (fixed kind.RightBrace) = refl
gap_is_space (fixed _) = refl

are_spaced : (ts : Tokens) → Each Said ts → AreSpaced 2147483647 (map spaced ts)
are_spaced [] said = tt
are_spaced (t ∷ ts) said = (said.0, gap_is_space t, are_spaced ts said.1)

spaced_is_text : (ts : Tokens) → text_of (map spaced ts) ≡ spaced_text ts
unfolding spaced_bytes
spaced_is_text [] = refl
spaced_is_text (t ∷ ts) = ap (λ l. written_bytes (spaced t) ++ l) (spaced_is_text ts)

said_by_spaced : (ts : Tokens) → said_by (map spaced ts) ≡ ts
said_by_spaced [] = refl
said_by_spaced (t ∷ ts) = ap (λ l. t ∷ l) (said_by_spaced ts)

-- a text that says the canonical tokens is a text of the grammar
says_grammar : (text : List ℕ) (ts : Tokens) (g : Grammar) → Says 2147483647 text ts → IsShallow brackets limit ts
    → SpellsGrammar ts g → IsTextOf text g
says_grammar text ts g says shallow spells = record {
  tokens = says.tokens;
  scanned = says.scanned;
  shallow = subst (IsShallow brackets limit) (sym says.said) shallow;
  spells = subst (λ l. SpellsGrammar l g) (sym says.said) spells;
}

-- the canonical text of a grammar that tokens spell which can be said
canonical_of : (tokens : Tokens) (g : Grammar) → Each Said tokens → IsShallow brackets limit tokens
    → SpellsGrammar tokens g → IsTextOf (grammar_text g) g
canonical_of tokens g said shallow spells =
    let canonical = grammar_canonical spells said shallow in
    let ts = grammar_tokens g in
    let says = says_written 2147483647 (omega arith) (map spaced ts)
    (spaced_are_readable 2147483647 (map spaced ts) (are_spaced ts canonical.said)) in
    says_grammar (grammar_text g) ts g
    (subst (λ l. Says 2147483647 (grammar_text g) l) (said_by_spaced ts)
    (subst (λ l. Says 2147483647 l (said_by (map spaced ts))) (spaced_is_text ts) says))
    canonical.shallow canonical.spells

pub canonical_text : (text : List ℕ) (g : Grammar) → IsUtf8 text → IsTextOf text g → IsTextOf (grammar_text g) g
canonical_text text g utf8 is =
    canonical_of _ g (tokens_said text 0 is.tokens utf8 (are_tokens_of 2147483647 text is.tokens utf8 is.scanned))
    is.shallow is.spells

-- the same of tokens one by one
pub each_said : (ts : Tokens) → AllByRecursion (CanBeSaid 2147483647) ts → Each Said ts
each_said [] said = tt
each_said (t ∷ ts) said = (said.0, each_said ts said.1)

-- and of a grammar that can be read
pub readable_text : (g : Grammar) → CanBeRead g → IsTextOf (grammar_text g) g
readable_text g is = canonical_of is.tokens g (each_said is.tokens is.said) is.shallow is.spells
