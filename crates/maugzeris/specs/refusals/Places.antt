-- The byte at which a refusal says that a text goes wrong.
use Rattle.std.specs.Prelude.{◌≡◌, ℕ, ◌^◌, ◌<◌, ◌⊎◌, List, ◌++◌, codes, Option, Some, None}
use Rattle.ftl_page.specs.declared.sections.fault.Section.{Section}
use Rattle.ftl_tokens.specs.declared.scanner.fault.TokenFault.TheVariants as token
use Rattle.ftl_answer.specs.refusals.TextLines.{syntax_at, token_line, too_deep_at}

-- the text is this line with its line feed
abbrev pub IsLine : (line text : List ℕ) → Type 0
IsLine line text = text ≡ line ++ codes "\n"

-- it refuses the text of this section for what is at the byte: a character, a number, a token that does not fit, or one
-- behind which too much is open
abbrev pub TellsByteOf : Section → (text : List ℕ) → (at : ℕ) → Type 0
TellsByteOf which text at =
    IsLine (token_line which (token.BadChar at)) text
    ⊎ (IsLine (token_line which (token.NumberTooLarge at)) text
    ⊎ (IsLine (syntax_at which at) text ⊎ IsLine (too_deep_at which at) text))

-- it refuses the text of some section so
abbrev pub TellsByte : (text : List ℕ) → (at : ℕ) → Type 0
TellsByte text at = (which : Section) × TellsByteOf which text at

-- the byte that is told, of those that 32 bits count, as those of a text
abbrev pub ToldByte : (Tells : ℕ → Type 0) → Option ℕ → Type 0
ToldByte Tells (Some at) = Tells at
ToldByte Tells None = (at : ℕ) → at < 2 ^ 32 → Tells at → ⊥
