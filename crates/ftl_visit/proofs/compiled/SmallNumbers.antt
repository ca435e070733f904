-- The numbers of a text's tokens are small.
use Rattle.std.proofs.Common.{◌≡◌, ℕ, ◌≤◌, false, List, [], ◌∷◌, ◌++◌, map, arith}
use Rattle.std.specs.Prelude.{nat_lt}
use Rattle.std.specs.List.{AllByRecursion}
use Rattle.std.specs.Str.Parse.{digits_value}
use Rattle.ftl_tokens.specs.declared.scanner.kind.Kind.{Kind}
use Rattle.ftl_tokens.specs.declared.scanner.kind.Kind.TheVariants.{Name, Number}
use Rattle.ftl_tokens.specs.declared.scanner.kind.Token.{Token}
use Rattle.ftl_tokens.specs.scanner.Scan.{is_too_large}
use Rattle.ftl_tokens.specs.scanner.Tokenized.{AreTokensOf, Symbol, Tokenized, fixed, name, number, symbol, symbol_of, symbols_of, token_text}
use Rattle.ftl_tokens.specs.reading.Reader.{Tokens}
use Rattle.ftl_tokens.specs.writing.Written.{CanBeSaid}

-- a token that is a number is a small one
abbrev pub IsSmallNumber : Symbol → Type 0
IsSmallNumber (name text) = Unit {0}
IsSmallNumber (number n) = n ≤ 2147483647
IsSmallNumber (fixed kind) = Unit {0}

-- each token
abbrev pub AreSmallNumbers : Tokens → Type 0
AreSmallNumbers [] = Unit {0}
AreSmallNumbers (t ∷ ts) = IsSmallNumber t × AreSmallNumbers ts

-- those in front
pub front_small : (a b : Tokens) → AreSmallNumbers (a ++ b) → AreSmallNumbers a
front_small [] b h = tt
front_small (t ∷ a) b h = (h.0, front_small a b h.1)

-- those behind
pub back_small : (a b : Tokens) → AreSmallNumbers (a ++ b) → AreSmallNumbers b
back_small [] b h = h
back_small (t ∷ a) b h = back_small a b h.1

small_symbol : (kind : Kind) (text : List ℕ) → is_too_large 2147483647 kind text ≡ false → IsSmallNumber (symbol kind text)
small_symbol Name text e = tt
small_symbol Number text e = not_above (digits_value 10 text) e
  where
    not_above : (n : ℕ) → nat_lt 2147483647 n ≡ false → n ≤ 2147483647
    not_above n e = grind (arith, e)
small_symbol _ text e = tt

small_from : (text : List ℕ) (at : ℕ) (tokens : List Token) → AreTokensOf 2147483647 text at tokens
    → AreSmallNumbers (map (symbol_of text) tokens)
small_from text at [] h = tt
small_from text at (t ∷ ts) h =
    (small_symbol t.kind (token_text text t) h.1.small, small_from text t.end ts h.2)

-- of a whole text
pub small_numbers : (scanned : Tokenized) → AreTokensOf 2147483647 scanned.text 0 scanned.tokens
    → AreSmallNumbers (symbols_of scanned)
small_numbers scanned h = small_from scanned.text 0 scanned.tokens h

-- and of tokens that a text can have
pub said_small : (tokens : Tokens) → AllByRecursion (CanBeSaid 2147483647) tokens → AreSmallNumbers tokens
said_small [] said = tt
said_small (name text ∷ ts) said = (tt, said_small ts said.1)
said_small (number n ∷ ts) said = (said.0, said_small ts said.1)
said_small (fixed kind ∷ ts) said = (tt, said_small ts said.1)
