-- The scan again, as a relation: what a text may be cut into, from the left.
use Rattle.std.specs.Prelude.{◌≡◌, ◌≢◌, ℕ, ◌+◌, ◌<◌, true, false, List, [], ◌∷◌, ◌++◌, length, Some, None, Ok, Err}
use Rattle.std.specs.List.{list_all}
use Rattle.ftl_tokens.specs.declared.scanner.kind.Kind.{Kind}
use Rattle.ftl_tokens.specs.declared.scanner.kind.Kind.TheVariants.{Number}
use Rattle.ftl_tokens.specs.declared.scanner.fault.TokenFault.TheVariants.{BadChar, NumberTooLarge}
use Rattle.ftl_tokens.specs.scanner.Kinds.{kind_of}
use Rattle.ftl_tokens.specs.scanner.Scan.{is_white_space, stays_in_line, byte_length, is_too_large, Scanning, followed_by}

-- a line ends here: with the text, or with a line feed
abbrev pub IsLineEnd : List ℕ → Type 0
IsLineEnd [] = Unit {0}
IsLineEnd (c ∷ cs) = c ≡ 10

-- what may stand between tokens, before the rest of the text
pub data IsGap : List ℕ → List ℕ → Type 0 where
  white_space : {c : ℕ} {more rest : List ℕ} → is_white_space c ≡ true → list_all is_white_space more ≡ true
      → IsGap (c ∷ more) rest
  -- from `#` to the end of the line
  comment : {body rest : List ℕ} → list_all stays_in_line body ≡ true → IsLineEnd rest → IsGap (35 ∷ body) rest

-- a token, which what follows does not make longer
pub record IsLongestToken (kind : Kind) (text rest : List ℕ) : Type 0 where
  pub is_token : kind_of text ≡ Some kind
  pub longest : (more after : List ℕ) → rest ≡ more ++ after → 0 < length more → kind_of (text ++ more) ≡ None

-- neither white space nor a comment nor a token begins these characters
pub record BeginsNothing (c : ℕ) (cs : List ℕ) : Type 0 where
  pub no_white_space : is_white_space c ≡ false
  pub no_comment : c ≢ 35
  pub no_token : (text rest : List ℕ) → (c ∷ cs) ≡ text ++ rest → kind_of text ≡ None

-- the characters from byte `at` on have these tokens, whose numbers are at most `greatest`, or this first fault
pub data Scans (greatest : ℕ) : ℕ → List ℕ → Scanning → Type 0 where
  at_end : {at : ℕ} → Scans greatest at [] (Ok [])
  past_gap : {at : ℕ} {text rest : List ℕ} {scan : Scanning} → IsGap text rest
      → Scans greatest (at + byte_length text) rest scan → Scans greatest at (text ++ rest) scan
  past_token : {at : ℕ} {kind : Kind} {text rest : List ℕ} {scan : Scanning} → IsLongestToken kind text rest
      → is_too_large greatest kind text ≡ false → Scans greatest (at + byte_length text) rest scan
      → Scans greatest at (text ++ rest)
      (followed_by (record { kind = kind; start = at; end = at + byte_length text } ∷ []) scan)
  large_number : {at : ℕ} {text rest : List ℕ} → IsLongestToken Number text rest
      → is_too_large greatest Number text ≡ true
      → Scans greatest at (text ++ rest) (Err (NumberTooLarge at))
  bad_char : {at c : ℕ} {cs : List ℕ} → BeginsNothing c cs → Scans greatest at (c ∷ cs) (Err (BadChar at))
