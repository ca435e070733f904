-- A text with its tokens, and what readers see of it.
use Rattle.std.specs.Prelude.{◌≡◌, ℕ, ◌<◌, ◌≤◌, ◌⊎◌, false, List, [], ◌∷◌, map, Some}
use Rattle.std.specs.List.{slice_range}
use Rattle.std.specs.Str.{chars, IsCharBoundary}
use Rattle.std.specs.Str.Parse.{digits_value}
use Rattle.ftl_tokens.specs.declared.scanner.kind.Kind.{Kind}
use Rattle.ftl_tokens.specs.declared.scanner.kind.Kind.TheVariants.{Name, Number}
use Rattle.ftl_tokens.specs.declared.scanner.kind.Token.{Token}
use Rattle.ftl_tokens.specs.scanner.Kinds.{kind_of}
use Rattle.ftl_tokens.specs.scanner.Scan.{is_too_large}

-- a text, by its bytes, and its tokens in order
pub record Tokenized : Type 0 where
  pub text : List ℕ
  pub tokens : List Token

-- a text with its tokens, whose numbers are at most `greatest`
pub record WideTokenized : Type 0 where
  pub tokenized : Tokenized
  pub greatest : ℕ

-- the greatest number of a call that scans a document
abbrev pub IsGreatestNumber : ℕ → Type 0
IsGreatestNumber greatest = (greatest ≡ 2147483647) ⊎ (greatest ≡ 140737488355327)

-- the bytes of a token in its text
abbrev pub token_text : List ℕ → Token → List ℕ
token_text text token = slice_range text token.start token.end

-- the token stands between two characters of the text, which has a token of its kind there, no number above `greatest`
pub record IsTokenOf (greatest : ℕ) (text : List ℕ) (token : Token) : Type 0 where
  pub some : token.start < token.end
  pub begins : IsCharBoundary text token.start
  pub ends : IsCharBoundary text token.end
  pub kind : kind_of (chars (token_text text token)) ≡ Some token.kind
  pub small : is_too_large greatest token.kind (token_text text token) ≡ false

-- these are tokens of the text from byte `at` on, in order, none of which begins within another
abbrev pub AreTokensOf : ℕ → List ℕ → ℕ → List Token → Type 0
AreTokensOf greatest text at [] = Unit {0}
AreTokensOf greatest text at (token ∷ tokens) =
    (at ≤ token.start) × IsTokenOf greatest text token × AreTokensOf greatest text token.end tokens

-- what a token says: a name by its bytes, a number by its value, a reserved word or a mark by its kind
pub data Symbol : Type 0 where
  name : List ℕ → Symbol
  number : ℕ → Symbol
  fixed : Kind → Symbol

-- what a token of this kind with these bytes says
abbrev pub symbol : Kind → List ℕ → Symbol
symbol Name text = name text
symbol Number text = number (digits_value 10 text)
symbol kind text = fixed kind

-- what a token of a text says
abbrev pub symbol_of : List ℕ → Token → Symbol
symbol_of text token = symbol token.kind (token_text text token)

-- the symbols of a text, in order
abbrev pub symbols_of : Tokenized → List Symbol
symbols_of scanned = map (symbol_of scanned.text) scanned.tokens

-- the kind of the tokens that say this
abbrev pub kind_of_symbol : Symbol → Kind
kind_of_symbol (name text) = Name
kind_of_symbol (number value) = Number
kind_of_symbol (fixed kind) = kind
