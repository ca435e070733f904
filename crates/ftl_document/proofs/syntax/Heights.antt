-- How many braces are open at once, and past the first token.
use Rattle.std.proofs.Common.{◌≡◌, ℕ, suc, ◌-◌, ◌<◌, Bool, true, false, List, ◌∷◌, refl, arith}
use Rattle.ftl_tokens.specs.declared.scanner.kind.Kind.{Kind}
use Rattle.ftl_tokens.specs.declared.scanner.kind.Kind.TheVariants as kind
use Rattle.ftl_tokens.specs.scanner.Tokenized.{Symbol, name, number, fixed}
use Rattle.ftl_tokens.specs.reading.Reader.{Tokens, same_kind}
use Rattle.ftl_tokens.specs.reading.Depth.{IsShallow, is_among}
use Rattle.ftl_tokens.proofs.reading.DepthLemmas.{peak, AreApart, peak_le}
use Rattle.ftl_document.specs.syntax.Braces.{braces}

-- how many braces are open at once
abbrev pub height : Tokens → ℕ
height ts = peak braces ts

-- the tokens that open and close no brace
abbrev pub is_plain : Kind → Bool
is_plain kind.LeftBrace = false
is_plain kind.RightBrace = false
is_plain _ = true

pub height_plain : (k : Kind) (ts : Tokens) → is_plain k ≡ true → height (fixed k ∷ ts) ≡ height ts
unfolding peak same_kind
height_plain kind.LeftBrace ts e = cc
height_plain kind.RightBrace ts e = cc
height_plain _ ts e = refl

pub height_open : (ts : Tokens) → height (fixed kind.LeftBrace ∷ ts) ≡ suc (height ts)
unfolding peak same_kind
height_open ts = refl

pub height_close : (ts : Tokens) → height (fixed kind.RightBrace ∷ ts) ≡ height ts - 1
unfolding peak same_kind
height_close ts = refl

pub height_name : (text : List ℕ) (ts : Tokens) → height (name text ∷ ts) ≡ height ts
unfolding peak same_kind
height_name text ts = refl

pub height_number : (value : ℕ) (ts : Tokens) → height (number value ∷ ts) ≡ height ts
unfolding peak same_kind
height_number value ts = refl

-- ---- how many may be open past a token

pub past_plain : {n : ℕ} (k : Kind) → is_plain k ≡ true → (ts : Tokens) → height (fixed k ∷ ts) < n → height ts < n
past_plain k e ts small = omega (arith, height_plain k ts e)

pub past_open : {n : ℕ} (ts : Tokens) → height (fixed kind.LeftBrace ∷ ts) < suc n → height ts < n
past_open ts small = omega (arith, height_open ts)

pub past_close : {n : ℕ} (ts : Tokens) → height (fixed kind.RightBrace ∷ ts) < n → height ts < suc n
past_close ts small = omega (arith, height_close ts)

pub past_name : {n : ℕ} (text : List ℕ) (ts : Tokens) → height (name text ∷ ts) < n → height ts < n
past_name text ts small = omega (arith, height_name text ts)

pub past_number : {n : ℕ} (value : ℕ) (ts : Tokens) → height (number value ∷ ts) < n → height ts < n
past_number value ts small = omega (arith, height_number value ts)

-- no token both opens and closes a brace
apart : AreApart braces
unfolding same_kind
apart = record { apart = go }
  where
    go : (t : Symbol) → is_among braces.opening t ≡ true → is_among braces.closing t ≡ true → ⊥
    go (name text) opens closes = cc
    go (number value) opens closes = cc
    go (fixed kind.LeftBrace) opens closes = cc
    go (fixed _) opens closes = cc

-- where at no token more are open
pub shallow_height : (limit : ℕ) (tokens : Tokens) → IsShallow braces limit tokens → height tokens < suc limit
shallow_height limit tokens shallow = let few = peak_le apart limit tokens shallow in omega (arith, few)
