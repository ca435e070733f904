-- How many tokens and how many marks `{` a text has.
use Rattle.std.proofs.Common.{◌≡◌, ℕ, ◌+◌, Bool, true, false, List, ◌∷◌, map}
use Rattle.std.proofs.Common.{count_by, cond, ◌||◌, refl, ap, ◌∙◌, arith}
use Rattle.ftl_tokens.specs.declared.scanner.kind.Token.{Token}
use Rattle.ftl_tokens.specs.scanner.Tokenized.{Tokenized, symbol_of}
use Rattle.ftl_tokens.specs.declared.scanner.kind.Kind.TheVariants as kind
use Rattle.ftl_tokens.specs.scanner.Tokenized.{token_text, kind_of_symbol}
use Rattle.ftl_tokens.specs.reading.Reader.{same_kind}
use Rattle.ftl_tokens.specs.reading.Depth.{is_among, count_of}
use Rattle.ftl_tokens.proofs.reading.InputLemmas.{kind-symbol}
use Rattle.ftl_document.specs.syntax.Braces.{braces}
use Rattle.ftl_document.specs.syntax.Read.{opened_in}
use Rattle.std.proofs.lemmas.List.Recursion.{is_count_by}
use Rattle.std.proofs.lemmas.List.Sums.{sum_by-cons}

-- whether the token is a mark `{`
abbrev pub opens : Token → Bool
opens t = same_kind t.kind kind.LeftBrace

or_false : (b : Bool) → b || false ≡ b
or_false true = refl
or_false false = refl

is_among-opens : (text : List ℕ) (t : Token) → is_among braces.opening (symbol_of text t) ≡ opens t
is_among-opens text t =
    or_false (same_kind (kind_of_symbol (symbol_of text t)) kind.LeftBrace)
    ∙ ap (λ k. same_kind k kind.LeftBrace) (kind-symbol t.kind (token_text text t))

-- a count with one more, where a test holds
count_one : (b : Bool) (n : ℕ) → cond b 1 0 + n ≡ cond b (1 + n) n
count_one true n = refl
count_one false n = omega arith

-- the marks of the text are counted by its tokens
pub opened-count : (s : Tokenized) → opened_in s ≡ count_by opens s.tokens
opened-count s = is_count_by (λ ts. count_of braces.opening (map (symbol_of s.text) ts)) opens refl step s.tokens
  where
    step : (t : Token) (ts : List Token) → count_of braces.opening (map (symbol_of s.text) (t ∷ ts))
        ≡ cond (opens t) (1 + count_of braces.opening (map (symbol_of s.text) ts)) (count_of braces.opening (map (symbol_of s.text) ts))
    step t ts =
        let later = map (symbol_of s.text) ts in
        sum_by-cons (λ u. cond (is_among braces.opening u) 1 0) (symbol_of s.text t) later
        ∙ ap {B = ℕ} (λ b. cond b 1 0 + count_of braces.opening later) (is_among-opens s.text t)
        ∙ count_one (opens t) (count_of braces.opening later)
