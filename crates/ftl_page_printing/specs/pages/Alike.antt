-- Texts that say the same: whose tokens do, whatever stands between these.
use Rattle.std.specs.Prelude.{◌≡◌, ℕ, List, Option, Some, None, Ok}
use Rattle.ftl_tokens.specs.declared.scanner.kind.Token.{Token}
use Rattle.ftl_tokens.specs.scanner.Scan.{scan}
use Rattle.ftl_tokens.specs.scanner.Tokenized.{symbols_of}

-- both texts have tokens, no number above the greatest, and these say the same
pub record SaysSame (greatest : ℕ) (text other : List ℕ) : Type 0 where
  pub tokens : List Token
  pub scanned : scan greatest text ≡ Ok tokens
  pub others : List Token
  pub others_scanned : scan greatest other ≡ Ok others
  pub alike :
      symbols_of (record { text = text; tokens = tokens }) ≡ symbols_of (record { text = other; tokens = others })

-- both are there and say the same, or neither is
abbrev pub SaysSameIfAny : ℕ → Option (List ℕ) → Option (List ℕ) → Type 0
SaysSameIfAny greatest None None = Unit {0}
SaysSameIfAny greatest (Some text) (Some other) = SaysSame greatest text other
SaysSameIfAny greatest _ _ = ⊥
