-- There are no more tokens than bytes up to the end of the last one.
use Rattle.std.proofs.Common.{◌≡◌, ℕ, suc, ◌+◌, ◌-◌, ◌≤◌, List, [], ◌∷◌, length, slice_get, refl, sym, ap, ◌∙◌, arith}
use Rattle.ftl_tokens.specs.declared.scanner.kind.Token.{Token}
use Rattle.ftl_tokens.specs.scanner.Tokenized.{AreTokensOf}
use Rattle.ftl_tokens.specs.reading.Place.{place_of, byte_at}

-- the place behind all tokens is the same without the first, where another follows it
place_later : (t u : Token) (ts : List Token) → place_of (t ∷ u ∷ ts) (length (t ∷ u ∷ ts)) ≡ place_of (u ∷ ts) (length (u ∷ ts))
unfolding place_of
place_later t u ts =
    let before : suc (suc (length ts)) - 1 ≡ suc (length ts) = omega arith in
    let here : suc (length ts) - 1 ≡ length ts = omega arith in
    ap (λ k. byte_at (slice_get ts (length ts)) (slice_get (t ∷ u ∷ ts) k)) before
    ∙ ap (λ k. byte_at (slice_get ts (length ts)) (slice_get (u ∷ ts) k)) (sym here)

-- the place behind one token is its end
place_one : (t : Token) → place_of (t ∷ []) (length (t ∷ [])) ≡ t.end
unfolding place_of
place_one t = refl

-- the tokens behind `at` have a byte at least each, and the last ends at the place behind all of them
tokens_end : (greatest : ℕ) (text : List ℕ) (at : ℕ) (t : Token) (ts : List Token) → AreTokensOf greatest text at (t ∷ ts)
    → at + length (t ∷ ts) ≤ place_of (t ∷ ts) (length (t ∷ ts))
tokens_end greatest text at t [] are = let some = are.1.some in omega (arith, are.0, some, place_one t)
tokens_end greatest text at t (u ∷ ts) are =
    let some = are.1.some in
    let later = tokens_end greatest text t.end u ts are.2 in
    omega (arith, are.0, some, later, place_later t u ts)

-- there are no more tokens than bytes up to the end of the last one
pub tokens-le-place : (greatest : ℕ) (text : List ℕ) (tokens : List Token) → AreTokensOf greatest text 0 tokens
    → length tokens ≤ place_of tokens (length tokens)
tokens-le-place greatest text [] are = omega arith
tokens-le-place greatest text (t ∷ ts) are = omega (arith, tokens_end greatest text 0 t ts are)
