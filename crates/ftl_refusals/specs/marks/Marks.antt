-- Marks at bytes of sections.
use Rattle.std.specs.Prelude.{◌≡◌, ℕ, ◌+◌, List, Some, slice_get}
use Rattle.ftl_tokens.specs.declared.scanner.kind.Token.{Token}
use Rattle.ftl_tokens.specs.scanner.Tokenized.{Tokenized}
use Rattle.ftl_refusals.specs.tokens.Named.{Says}
use Rattle.ftl_refusals.specs.places.Places.{place_at}
use Rattle.ftl_refusals.specs.places.Sections.{IsSectionAt}
use Rattle.ftl_refusals.specs.declared.marks.marked.Mark.{Mark}

-- The mark stands so many bytes behind the beginning of the section's text in the file, and its place is that of the
-- byte there.
pub record IsMarkOf (file word text : List ℕ) (byte : ℕ) (mark : Mark) : Type 0 where
  pub start : ℕ
  pub section : IsSectionAt file word text start
  pub byte_is : mark.byte ≡ start + byte
  pub place_is : mark.place ≡ place_at file mark.byte

-- The mark stands at the first byte of token `k` of the section's text, and that token says the name.
pub record IsMarkOfToken (file word : List ℕ) (scanned : Tokenized) (k : ℕ) (name : List ℕ) (mark : Mark) : Type 0 where
  pub says : Says scanned name k
  pub token : Token
  pub token_is : slice_get scanned.tokens k ≡ Some token
  pub marked : IsMarkOf file word scanned.text token.start mark
