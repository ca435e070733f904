-- A text has no more tokens than bytes.
use Rattle.std.proofs.Common.{ℕ, ◌+◌, ◌≤◌, List, [], ◌∷◌, length, arith}
use Rattle.std.proofs.lemmas.List.{length-map}
use Rattle.ftl_tokens.specs.declared.scanner.kind.Token.{Token}
use Rattle.ftl_tokens.specs.scanner.Tokenized.{AreTokensOf, Tokenized, symbol_of, symbols_of}

-- from a byte on
few_from : (greatest : ℕ) (text : List ℕ) (at : ℕ) (tokens : List Token) → at ≤ length text
    → AreTokensOf greatest text at tokens → at + length tokens ≤ length text
few_from greatest text at [] within h = omega (arith, within)
few_from greatest text at (t ∷ ts) within h =
    omega (arith, h.0, h.1.some, few_from greatest text t.end ts h.1.ends.0 h.2)

pub few_tokens : (greatest : ℕ) (scanned : Tokenized) → AreTokensOf greatest scanned.text 0 scanned.tokens
    → length (symbols_of scanned) ≤ length scanned.text
few_tokens greatest scanned h =
    omega (arith, few_from greatest scanned.text 0 scanned.tokens (omega arith) h, length-map scanned.tokens (symbol_of scanned.text))
