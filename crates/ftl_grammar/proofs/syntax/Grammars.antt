-- What the reader of grammars answers, in the words of the syntax: the grammar that the tokens spell, or the place at
-- which they go wrong.
use Rattle.std.proofs.Common.{◌≡◌, ℕ, suc, ◌-◌, ◌<◌, true, List, [], ◌++◌, length, Ok, Err, sym, ap, ◌∙◌, subst}
use Rattle.std.proofs.Common.{append-nil, arith}
use Rattle.ftl_tokens.specs.declared.scanner.kind.Kind.TheVariants as kind
use Rattle.ftl_tokens.specs.scanner.Tokenized.{Tokenized, Symbol, symbols_of, name, number, fixed}
use Rattle.ftl_tokens.specs.reading.Reader.{Tokens, Reader, same_kind, expect, take_name, chain_of}
use Rattle.ftl_tokens.specs.reading.Depth.{IsShallow, is_among}
use Rattle.ftl_tokens.specs.reading.Place.{LongestFront, IsFaultPlace, place_of}
use Rattle.ftl_tokens.proofs.reading.KeptPrefix.{Taken, HasPrefix}
use Rattle.ftl_tokens.proofs.reading.DepthLemmas.{AreApart, peak_le}
use Rattle.ftl_tokens.proofs.reading.Places.{is_place}
use Rattle.ftl_tokens.proofs.reading.WholeLists.{ReadsAll, bind_reads_all, end_reads_all, same_value}
use Rattle.ftl_grammar.specs.declared.syntax.expression.Expr.{Expr}
use Rattle.ftl_grammar.specs.declared.syntax.rules.Interface.{Interface}
use Rattle.ftl_grammar.specs.declared.syntax.rules.Class.{Class}
use Rattle.ftl_grammar.specs.declared.syntax.rules.Grammar.{Grammar}
use Rattle.ftl_grammar.specs.syntax.Trees as trees
use Rattle.ftl_grammar.specs.syntax.Brackets.{brackets, limit}
use Rattle.ftl_grammar.specs.syntax.GrammarSpelling.{SpellsGrammar}
use Rattle.ftl_grammar.specs.syntax.ExpressionReading as expressions
use Rattle.ftl_grammar.specs.syntax.GrammarReading.{declaration, add_declaration, grammar_level, grammar, bracket_depth}
use Rattle.ftl_grammar.proofs.syntax.Heads.{height}
use Rattle.ftl_grammar.proofs.syntax.PlacesGrammar.{NoGrammar, grammar_prefix, grammar_went, no_grammar}

-- no token both opens and closes a bracket
separate : AreApart brackets
unfolding same_kind
separate = record { apart = apart }
  where
    apart : (t : Symbol) → is_among brackets.opening t ≡ true → is_among brackets.closing t ≡ true → ⊥
    apart (name text) opens closes = cc
    apart (number value) opens closes = cc
    apart (fixed kind.LeftParen) opens closes = cc
    apart (fixed kind.LeftBracket) opens closes = cc
    apart (fixed _) opens closes = cc

-- where at most 64 brackets are open
shallow_height : (tokens : Tokens) → IsShallow brackets limit tokens → height tokens < bracket_depth
shallow_height tokens shallow = let few = peak_le separate limit tokens shallow in omega (arith, few)

-- ---- one grammar

-- no tokens spell two grammars
pub one_grammar : (tokens : Tokens) (g h : Grammar) → SpellsGrammar tokens g → SpellsGrammar tokens h → g ≡ h
one_grammar tokens g h s t =
    let n = suc (height tokens) in
    same_value (grammar_went s n (omega arith)) (grammar_went t n (omega arith))

-- ---- what the reader answers

-- the reader of grammars reads to the end
all_read : (expr : Reader Expr) → ReadsAll (grammar_level expr)
unfolding grammar_level
all_read expr =
    bind_reads_all (expect kind.Root)
    (λ a. bind_reads_all take_name
    (λ n. bind_reads_all (expect kind.Semicolon)
    (λ b. bind_reads_all (chain_of add_declaration (declaration expr) ([], []))
    (λ (xs : List Interface × List Class). end_reads_all (trees.grammar n xs.0 xs.1)))))

-- what is read is spelled, and no tokens are left
pub record ReadGrammar (tokens : Tokens) (g : Grammar) (left : Tokens) : Type 0 where
  pub spells : SpellsGrammar tokens g
  pub none_left : left ≡ []

-- what is read is spelled
pub read_grammar : (tokens left : Tokens) (g : Grammar) → grammar tokens ≡ Ok (g, left) → ReadGrammar tokens g left
unfolding grammar
read_grammar tokens left g e =
    let none_left = (all_read (expressions.expr bracket_depth)).none_left tokens left g e in
    let taken : Taken SpellsGrammar tokens g left =
    subst (λ o. HasPrefix SpellsGrammar o tokens) e (grammar_prefix.keeps tokens) in
    let whole : tokens ≡ taken.front = taken.split ∙ ap (λ l. taken.front ++ l) none_left ∙ append-nil taken.front in
    record { spells = subst (λ l. SpellsGrammar l g) (sym whole) taken.spells; none_left = none_left }

-- what is spelled is read, where the tokens are not too deep
pub grammar_is_read : (tokens : Tokens) (g : Grammar) → IsShallow brackets limit tokens → SpellsGrammar tokens g
    → grammar tokens ≡ Ok (g, [])
unfolding grammar
grammar_is_read tokens g shallow spells = grammar_went spells bracket_depth (shallow_height tokens shallow)

-- tokens that are refused spell no grammar and go wrong at the refused one, where they are not too deep
pub refused : (tokens rest : Tokens) → IsShallow brackets limit tokens → grammar tokens ≡ Err rest
    → NoGrammar tokens rest
refused tokens rest shallow e = no_grammar tokens rest (shallow_height tokens shallow) e

-- tokens that are refused spell no grammar
pub refused_spells_none : (tokens rest : Tokens) → IsShallow brackets limit tokens → grammar tokens ≡ Err rest
    → (g : Grammar) → SpellsGrammar tokens g → ⊥
refused_spells_none tokens rest shallow e = (refused tokens rest shallow e).none

-- tokens that are refused go wrong at the refused one
pub refused_longest_front : (tokens rest : Tokens) → IsShallow brackets limit tokens → grammar tokens ≡ Err rest
    → LongestFront SpellsGrammar tokens rest
refused_longest_front tokens rest shallow e = (refused tokens rest shallow e).wrong

-- the byte at which they go wrong, from the number of tokens that are left
pub refused_place : {scanned : Tokenized} {at : ℕ} (rest : Tokens) → IsShallow brackets limit (symbols_of scanned)
    → grammar (symbols_of scanned) ≡ Err rest → (kept : ℕ) → kept ≡ length rest
    → at ≡ place_of scanned.tokens (length scanned.tokens - kept) → IsFaultPlace SpellsGrammar scanned at
refused_place {scanned} rest shallow e kept count place =
    is_place rest (refused_longest_front (symbols_of scanned) rest shallow e) kept count place
