-- The numbers of tokens that are left are at most the greatest one of all.
use Rattle.std.proofs.Common.{◌≡◌, ℕ, zero, suc, false, ◌≤◌, inl, inr, List, [], ◌∷◌, map, Ok, sym, ap, subst}
use Rattle.std.specs.Str.Parse.{digits_value}
use Rattle.std.proofs.lemmas.Bool.{ltb-false}
use Rattle.ftl_tokens.specs.declared.scanner.kind.Kind.{Kind}
use Rattle.ftl_tokens.specs.declared.scanner.kind.Kind.TheVariants.{Name, Number}
use Rattle.ftl_tokens.specs.declared.scanner.kind.Token.{Token}
use Rattle.ftl_tokens.specs.scanner.Scan.{is_too_large}
use Rattle.ftl_tokens.specs.scanner.Tokenized.{AreTokensOf, token_text, name, number, fixed, symbol, symbol_of}
use Rattle.ftl_tokens.specs.reading.Reader.{Tokens, ReadResult, rest_of, take_number, take_positive, TakesAtMostOne, AreAtMost}

at_most-symbol : (greatest : ℕ) (kind : Kind) (text : List ℕ) (ts : Tokens) → is_too_large greatest kind text ≡ false
    → AreAtMost greatest ts → AreAtMost greatest (symbol kind text ∷ ts)
at_most-symbol greatest Name text ts small rest = rest
at_most-symbol greatest Number text ts small rest = (ltb-false greatest (digits_value 10 text) small, rest)
at_most-symbol greatest _ text ts small rest = rest

-- the numbers of a text are at most its greatest
pub at_most-symbols : (greatest : ℕ) (text : List ℕ) (at : ℕ) (tokens : List Token) → AreTokensOf greatest text at tokens
    → AreAtMost greatest (map (symbol_of text) tokens)
at_most-symbols greatest text at [] are = tt
at_most-symbols greatest text at (token ∷ tokens) are =
    at_most-symbol greatest token.kind (token_text text token) (map (symbol_of text) tokens) are.1.small
    (at_most-symbols greatest text token.end tokens are.2)

at_most-rest_of : (greatest : ℕ) (ts : Tokens) → AreAtMost greatest ts → AreAtMost greatest (rest_of ts)
unfolding rest_of
at_most-rest_of greatest [] small = tt
at_most-rest_of greatest (name text ∷ ts) small = small
at_most-rest_of greatest (number value ∷ ts) small = small.1
at_most-rest_of greatest (fixed kind ∷ ts) small = small

-- and so are those after a step
pub at_most-step : (greatest : ℕ) (before after : Tokens) → AreAtMost greatest before → TakesAtMostOne before after
    → AreAtMost greatest after
at_most-step greatest before after small (inl stays) = subst (AreAtMost greatest) (sym stays) small
at_most-step greatest before after small (inr goes) = subst (AreAtMost greatest) (sym goes) (at_most-rest_of greatest before small)

abbrev is_read : ℕ × Tokens → ReadResult ℕ
is_read p = Ok p

first_is : {a b : ℕ} {ts us : Tokens} → is_read (a, ts) ≡ is_read (b, us) → a ≡ b
first_is {a} {b} {ts} {us} same = let pairs : (a, ts) ≡ (b, us) = cc in ap (λ (p : ℕ × Tokens). p.0) pairs

-- a number that was read is at most the greatest
pub take_number-small : (greatest : ℕ) (ts left : Tokens) (value : ℕ) → AreAtMost greatest ts
    → take_number ts ≡ Ok (value, left) → value ≤ greatest
unfolding take_number
take_number-small greatest [] left value small is = cc
take_number-small greatest (name text ∷ ts) left value small is = cc
take_number-small greatest (number found ∷ ts) left value small is = let same : is_read (found, ts) ≡ is_read (value, left) = is in subst (λ n. n ≤ greatest) (first_is same) small.0
take_number-small greatest (fixed kind ∷ ts) left value small is = cc

pub take_positive-small : (greatest : ℕ) (ts left : Tokens) (value : ℕ) → AreAtMost greatest ts
    → take_positive ts ≡ Ok (value, left) → value ≤ greatest
unfolding take_positive
take_positive-small greatest [] left value small is = cc
take_positive-small greatest (name text ∷ ts) left value small is = cc
take_positive-small greatest (number zero ∷ ts) left value small is = cc
take_positive-small greatest (number (suc found) ∷ ts) left value small is = let same : is_read (suc found, ts) ≡ is_read (value, left) = is in subst (λ n. n ≤ greatest) (first_is same) small.0
take_positive-small greatest (fixed kind ∷ ts) left value small is = cc
