-- What the first token of a list tells: what it goes on with, what it begins, and which brackets are open past it.
use Rattle.std.proofs.Common.{◌≡◌, ℕ, suc, ◌-◌, ◌<◌, Bool, true, false, List, ◌∷◌, Option, Some, refl, arith}
use Rattle.ftl_tokens.specs.declared.scanner.kind.Kind.{Kind}
use Rattle.ftl_tokens.specs.declared.scanner.kind.Kind.TheVariants as kind
use Rattle.ftl_tokens.specs.scanner.Tokenized.{name, number, fixed}
use Rattle.ftl_tokens.specs.reading.Reader.{Tokens, next_kind, same_kind}
use Rattle.ftl_tokens.proofs.reading.DepthLemmas.{peak}
use Rattle.ftl_grammar.specs.syntax.Brackets.{brackets}

-- how tightly the token goes on what stands before it: factors, terms, comparisons, `&&`, `||`, all else
abbrev pub level : Option Kind → ℕ
level (Some kind.Star) = 5
level (Some kind.Slash) = 5
level (Some kind.Plus) = 4
level (Some kind.Minus) = 4
level (Some kind.Less) = 3
level (Some kind.LessEq) = 3
level (Some kind.More) = 3
level (Some kind.MoreEq) = 3
level (Some kind.EqualEqual) = 3
level (Some kind.Unequal) = 3
level (Some kind.AndAnd) = 2
level (Some kind.OrOr) = 1
level _ = 0

-- what the tokens go on with is looser than this
abbrev pub Looser : ℕ → Tokens → Type 0
Looser n rest = level (next_kind rest) < n

-- the least form that the token may begin: a read, a plain atom, an atom, a term, or none of them
abbrev pub form : Option Kind → ℕ
form (Some kind.Name) = 0
form (Some kind.SelfWord) = 0
form (Some kind.This) = 0
form (Some kind.Prev) = 0
form (Some kind.Number) = 1
form (Some kind.Acc) = 1
form (Some kind.LeftParen) = 1
form (Some kind.Min) = 2
form (Some kind.Max) = 2
form (Some kind.Last) = 2
form (Some kind.Minus) = 3
form _ = 4

-- what the token begins within a list of parts: a name more, a group of attributes, what is shown, a child or a
-- rule, a rule of its own, an interface or a class, or none of them
abbrev pub list_part : Option Kind → ℕ
list_part (Some kind.Comma) = 6
list_part (Some kind.Inh) = 5
list_part (Some kind.Syn) = 5
list_part (Some kind.Input) = 5
list_part (Some kind.Local) = 5
list_part (Some kind.Show) = 4
list_part (Some kind.Name) = 3
list_part (Some kind.SelfWord) = 2
list_part (Some kind.Interface) = 1
list_part (Some kind.Class) = 1
list_part _ = 0

-- the tokens begin with what comes later in a list
abbrev pub Later : ℕ → Tokens → Type 0
Later n rest = list_part (next_kind rest) < n

-- how many brackets are open at once
abbrev pub height : Tokens → ℕ
height ts = peak brackets ts

-- the tokens that open and close no bracket
abbrev pub is_plain : Kind → Bool
is_plain kind.LeftParen = false
is_plain kind.LeftBracket = false
is_plain kind.RightParen = false
is_plain kind.RightBracket = false
is_plain _ = true

height_plain : (k : Kind) (ts : Tokens) → is_plain k ≡ true → height (fixed k ∷ ts) ≡ height ts
unfolding peak same_kind
height_plain kind.LeftParen ts e = cc
height_plain kind.LeftBracket ts e = cc
height_plain kind.RightParen ts e = cc
height_plain kind.RightBracket ts e = cc
height_plain _ ts e = refl

height_paren : (ts : Tokens) → height (fixed kind.LeftParen ∷ ts) ≡ suc (height ts)
unfolding peak same_kind
height_paren ts = refl

height_bracket : (ts : Tokens) → height (fixed kind.LeftBracket ∷ ts) ≡ suc (height ts)
unfolding peak same_kind
height_bracket ts = refl

height_end_paren : (ts : Tokens) → height (fixed kind.RightParen ∷ ts) ≡ height ts - 1
unfolding peak same_kind
height_end_paren ts = refl

height_end_bracket : (ts : Tokens) → height (fixed kind.RightBracket ∷ ts) ≡ height ts - 1
unfolding peak same_kind
height_end_bracket ts = refl

height_name : (text : List ℕ) (ts : Tokens) → height (name text ∷ ts) ≡ height ts
unfolding peak same_kind
height_name text ts = refl

height_number : (value : ℕ) (ts : Tokens) → height (number value ∷ ts) ≡ height ts
unfolding peak same_kind
height_number value ts = refl

-- ---- how many may be open past a token

pub past_plain : {n : ℕ} (k : Kind) → is_plain k ≡ true → (ts : Tokens) → height (fixed k ∷ ts) < n → height ts < n
past_plain k e ts small = omega (arith, height_plain k ts e)

pub past_paren : {n : ℕ} (ts : Tokens) → height (fixed kind.LeftParen ∷ ts) < suc n → height ts < n
past_paren ts small = omega (arith, height_paren ts)

pub past_bracket : {n : ℕ} (ts : Tokens) → height (fixed kind.LeftBracket ∷ ts) < suc n → height ts < n
past_bracket ts small = omega (arith, height_bracket ts)

pub past_end_paren : {n : ℕ} (ts : Tokens) → height (fixed kind.RightParen ∷ ts) < n → height ts < suc n
past_end_paren ts small = omega (arith, height_end_paren ts)

pub past_end_bracket : {n : ℕ} (ts : Tokens) → height (fixed kind.RightBracket ∷ ts) < n → height ts < suc n
past_end_bracket ts small = omega (arith, height_end_bracket ts)

pub past_name : {n : ℕ} (text : List ℕ) (ts : Tokens) → height (name text ∷ ts) < n → height ts < n
past_name text ts small = omega (arith, height_name text ts)

pub past_number : {n : ℕ} (value : ℕ) (ts : Tokens) → height (number value ∷ ts) < n → height ts < n
past_number value ts small = omega (arith, height_number value ts)
