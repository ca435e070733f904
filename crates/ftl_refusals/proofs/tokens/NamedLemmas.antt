-- What tokens say, by their slices.
use Rattle.std.proofs.Common.{◌≡◌, ℕ, ◌+◌, ◌<◌, ◌≤◌, List, length, sym, ap, subst, ◌∙◌, ⊎_elim, arith}
use Rattle.std.proofs.lemmas.Bool.{cases_order}
use Rattle.std.specs.Prelude.{IfSome, Some, slice_get, ⊤}
use Rattle.std.specs.Option.{option_map}
use Rattle.std.proofs.lemmas.Option.{MatchOption-at_some, none-some, slice_get_cases, slice_get_past}
use Rattle.ftl_tokens.specs.scanner.Tokenized.{Tokenized, token_text}
use Rattle.ftl_refusals.specs.tokens.Named.{text_of}

-- what the slice of a token has is what the token says
pub text_of-slice : (scanned : Tokenized) (k : ℕ) (word : List ℕ) → k < length scanned.tokens
    → IfSome (slice_get scanned.tokens k) (λ t. word ≡ token_text scanned.text t) → text_of scanned k ≡ Some word
text_of-slice scanned k word within slice =
    ⊎_elim
    (λ inside.
    ap (option_map (token_text scanned.text)) inside.2
    ∙ ap Some
    (sym (MatchOption-at_some ⊤ (λ t. word ≡ token_text scanned.text t) inside.0 inside.2 slice)))
    (λ past. absurd (omega (arith, within, past.0)))
    (slice_get_cases scanned.tokens k).1

-- behind the last token none says anything
pub text_of-past : (scanned : Tokenized) (k : ℕ) (word : List ℕ) → length scanned.tokens ≤ k
    → text_of scanned k ≡ Some word → ⊥
text_of-past scanned k word past says =
    none-some word (sym (ap (option_map (token_text scanned.text)) (slice_get_past scanned.tokens k past)) ∙ says)

-- none of the numbers from `from` up to `k` has the fact
abbrev pub NoneIn : (Holds : ℕ → Type 0) → (from k : ℕ) → Type 0
NoneIn Holds from k = (j : ℕ) → from ≤ j → j < k → ¬ Holds j

-- nor has one more
pub none_more : (Holds : ℕ → Type 0) (from k : ℕ) → NoneIn Holds from k → ¬ Holds k → NoneIn Holds from (k + 1)
none_more Holds from k none not = λ j low high.
    ⊎_elim
    (λ same. subst (λ n. ¬ Holds n) (sym same) not)
    (λ other. ⊎_elim (λ less. none j low less) (λ more. absurd (omega (arith, more, high))) other)
    (cases_order j k)
