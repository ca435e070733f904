-- The place at which tokens go wrong, for any relation that says which lists spell a value.
use Rattle.std.specs.Prelude.{◌≡◌, ℕ, ◌-◌, List, [], ◌∷◌, ◌++◌, length, Option, Some, None, slice_get}
use Rattle.ftl_tokens.specs.declared.scanner.kind.Token.{Token}
use Rattle.ftl_tokens.specs.scanner.Tokenized.{Tokenized, Symbol, symbols_of}
use Rattle.ftl_tokens.specs.reading.Reader.{Tokens}

-- some list that spells a value begins so
pub record Begins {A : Type 0} (Spells : Tokens → A → Type 0) (front : Tokens) : Type 0 where
  pub more : Tokens
  pub value : A
  pub spells : Spells (front ++ more) value

-- the tokens before `rest` begin some list that spells a value, and with the next token they don't
pub record LongestFront {A : Type 0} (Spells : Tokens → A → Type 0) (ts rest : Tokens) : Type 0 where
  pub front : Tokens
  pub split : ts ≡ front ++ rest
  pub begins : Begins Spells front
  pub longest : (t : Symbol) (more : Tokens) → rest ≡ t ∷ more → Begins Spells (front ++ (t ∷ [])) → ⊥

-- the start of a token, or else the end of the one before, or else the start of the text
abbrev pub byte_at : Option Token → Option Token → ℕ
byte_at (Some token) before = token.start
byte_at None (Some before) = before.end
byte_at None None = 0

-- the byte at which the tokens after the first `read` begin: the start of the next token, or the end of the last where
-- no token comes next, or 0 where the text has no token
unfoldable pub place_of : List Token → ℕ → ℕ
place_of tokens read = byte_at (slice_get tokens read) (slice_get tokens (length tokens - 1))

-- byte `at` is the place of the token after the longest front that begins some list that spells a value
pub record IsFaultPlace {A : Type 0} (Spells : Tokens → A → Type 0) (scanned : Tokenized) (at : ℕ) : Type 0 where
  pub rest : Tokens
  pub wrong : LongestFront Spells (symbols_of scanned) rest
  pub place : at ≡ place_of scanned.tokens (length wrong.front)
