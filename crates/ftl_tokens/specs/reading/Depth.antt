-- How many brackets are open at a token, counted as openings minus closings up to and including it.
use Rattle.std.specs.Prelude.{◌≡◌, ℕ, ◌+◌, ◌≤◌, Bool, List, [], ◌∷◌, ◌++◌, map, count_by}
use Rattle.std.specs.List.{list_any}
use Rattle.ftl_tokens.specs.declared.scanner.kind.Kind.{Kind}
use Rattle.ftl_tokens.specs.declared.scanner.kind.Token.{Token}
use Rattle.ftl_tokens.specs.scanner.Tokenized.{Tokenized, Symbol, symbol_of, kind_of_symbol}
use Rattle.ftl_tokens.specs.reading.Reader.{Tokens, same_kind}

-- the marks that open a bracket, and those that close one
pub record Brackets : Type 0 where
  pub opening : List Kind
  pub closing : List Kind

-- brackets with these marks
abbrev pub brackets_of : List Kind → List Kind → Brackets
brackets_of opening closing = record { opening = opening; closing = closing }

-- whether the token is of one of these kinds
abbrev pub is_among : List Kind → Symbol → Bool
is_among kinds t = list_any (same_kind (kind_of_symbol t)) kinds

-- how many tokens are of one of these kinds
abbrev pub count_of : List Kind → Tokens → ℕ
count_of kinds ts = count_by (is_among kinds) ts

-- at the end of these tokens at most so many brackets are open
abbrev pub OpensAtMost : Brackets → ℕ → Tokens → Type 0
OpensAtMost brackets limit ts = count_of brackets.opening ts ≤ count_of brackets.closing ts + limit

-- at each token at most so many are open
pub record IsShallow (brackets : Brackets) (limit : ℕ) (ts : Tokens) : Type 0 where
  pub within : (front rest : Tokens) → ts ≡ front ++ rest → OpensAtMost brackets limit front

-- byte `at` is the start of the first token at which more are open
pub record IsTooDeepAt (brackets : Brackets) (limit : ℕ) (scanned : Tokenized) (at : ℕ) : Type 0 where
  pub before : List Token
  pub token : Token
  pub after : List Token
  pub split : scanned.tokens ≡ before ++ (token ∷ after)
  pub first : IsShallow brackets limit (map (symbol_of scanned.text) before)
  pub deep : OpensAtMost brackets limit (map (symbol_of scanned.text) (before ++ (token ∷ []))) → ⊥
  pub place : at ≡ token.start
