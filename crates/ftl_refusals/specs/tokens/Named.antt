-- What tokens say.
use Rattle.std.specs.Prelude.{◌≡◌, ◌+◌, ◌<◌, ◌≤◌, ℕ, List, Option, Some, MatchOption, codes, option_map, slice_get}
use Rattle.ftl_tokens.specs.scanner.Tokenized.{Tokenized, token_text}

-- the bytes of token `k` of a text, if it has so many
abbrev pub text_of : Tokenized → (k : ℕ) → Option (List ℕ)
text_of scanned k = option_map (token_text scanned.text) (slice_get scanned.tokens k)

-- token `k` says the word
abbrev pub Says : Tokenized → (word : List ℕ) → (k : ℕ) → Type 0
Says scanned word k = text_of scanned k ≡ Some word

-- tokens `k` and `k + 2` say the owner and the name, and the one between them the dot (46): `owner.name`
pub record SaysPath (scanned : Tokenized) (owner name : List ℕ) (k : ℕ) : Type 0 where
  pub owner_is : Says scanned owner k
  pub dot_is : Says scanned (codes ".") (k + 1)
  pub name_is : Says scanned name (k + 2)

-- this is the first number from `from` on of which the fact holds
pub record IsFirstFrom (from : ℕ) (Holds : ℕ → Type 0) (k : ℕ) : Type 0 where
  pub from_on : from ≤ k
  pub holds : Holds k
  pub none_before : (j : ℕ) → from ≤ j → j < k → ¬ Holds j

-- it is the first such number from `from` on, or there is none
abbrev pub FirstFrom : (from : ℕ) → (Holds : ℕ → Type 0) → Option ℕ → Type 0
FirstFrom from Holds found = MatchOption found ((k : ℕ) → from ≤ k → ¬ Holds k) (IsFirstFrom from Holds)
