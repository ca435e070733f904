-- What comes next in plain bytes.
use Rattle.std.specs.Prelude.{◌≡◌, ℕ, ◌≤◌, ◌==◌, Bool, true, false, List, [], ◌∷◌}
use Rattle.ftl_tokens.specs.declared.scanner.run.Run.TheVariants.{White}
use Rattle.ftl_tokens.specs.scanner.Run.{byte_goes_on}
use Rattle.ftl_tokens.specs.scanner.Tokenized.{name, number, fixed}
use Rattle.ftl_tokens.specs.reading.Reader.{Tokens}
use Rattle.ftl_document.specs.declared.plain.next.Next.{Next}
use Rattle.ftl_document.specs.declared.plain.next.Next.TheVariants.{End, Name, Number, Mark}
use Rattle.ftl_document.specs.declared.plain.next.Found.{Found}
use Rattle.ftl_document.specs.plain.Plain.{plain_tokens}

-- neither white space nor a comment begins these bytes
abbrev pub IsGapless : List ℕ → Type 0
IsGapless [] = Unit {0}
IsGapless (b ∷ bs) = (byte_goes_on White b ≡ false) × ((b == 35) ≡ false)

-- the first byte passes the test
abbrev pub Starts : (ℕ → Bool) → List ℕ → Type 0
Starts test [] = ⊥
Starts test (b ∷ bs) = test b ≡ true

-- the next token, and those behind it
abbrev pub with_next : Next → Tokens → Tokens
with_next End ts = []
with_next (Name text) ts = name text ∷ ts
with_next (Number value) ts = number value ∷ ts
with_next (Mark kind) ts = fixed kind ∷ ts

-- a number has at most 47 bits
abbrev pub IsSmall : Next → Type 0
IsSmall (Number value) = value ≤ 140737488355327
IsSmall _ = Unit {0}

-- this is the next token of these bytes, with what is left behind it
pub record IsFoundIn (greatest : ℕ) (text : List ℕ) (found : Found) : Type 0 where
  pub tokens : plain_tokens greatest text ≡ with_next found.next (plain_tokens greatest found.rest.now)
  pub small : IsSmall found.next
