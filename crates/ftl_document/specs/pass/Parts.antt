-- What the parts of a pass give.
use Rattle.std.specs.Prelude.{◌≡◌, ℕ, ◌≤◌, false, List, [], ◌∷◌, ◌++◌}
use Rattle.ftl_model.specs.layout.TreeOf.{IsInput}
use Rattle.ftl_tokens.specs.declared.scanner.run.Run.TheVariants.{Word}
use Rattle.ftl_tokens.specs.scanner.Run.{byte_goes_on}
use Rattle.ftl_tokens.specs.scanner.Tokenized.{number}
use Rattle.ftl_tokens.specs.reading.Reader.{Tokens}
use Rattle.ftl_document.specs.plain.Plain.{plain_tokens}
use Rattle.ftl_document.specs.syntax.Spelling.{SpellsNumber}
use Rattle.ftl_document.specs.declared.pass.tokens.NumberAt.{NumberAt}
use Rattle.ftl_document.specs.declared.pass.tokens.InputAt.{InputAt}
use Rattle.ftl_document.specs.declared.pass.passed.Passed.{Passed}
use Rattle.ftl_document.specs.declared.pass.passed.Standing.{Standing}
use Rattle.ftl_document.specs.pass.Good.{State}

-- some bytes have these tokens, and then those of the rest
abbrev pub Begins : (bytes : List ℕ) → Tokens → (rest : List ℕ) → Type 0
Begins bytes front rest = (greatest : ℕ) → plain_tokens greatest bytes ≡ front ++ plain_tokens greatest rest

-- no word goes on here
abbrev pub IsWordEnd : List ℕ → Type 0
IsWordEnd [] = Unit {0}
IsWordEnd (b ∷ bs) = byte_goes_on Word b ≡ false

-- they have this number first
pub record IsNumberBefore (greatest : ℕ) (bytes : List ℕ) (n : NumberAt) : Type 0 where
  pub tokens : plain_tokens greatest bytes ≡ number n.value ∷ plain_tokens greatest n.rest.now
  pub small : n.value ≤ greatest

-- they have the number of an input first
pub record IsInputBefore (greatest : ℕ) (bytes : List ℕ) (n : InputAt) : Type 0 where
  pub front : Tokens
  pub spells : SpellsNumber front n.value
  pub input : IsInput greatest n.value
  pub tokens : plain_tokens greatest bytes ≡ front ++ plain_tokens greatest n.rest.now

-- a pass as contracts see it
abbrev pub state_of : ℕ → Passed → State
state_of greatest p =
    record {
      tokens = plain_tokens greatest p.rest.now;
      rows = p.rows.items;
      inputs = p.inputs.items;
      count = p.count;
    }

-- before all of a text
abbrev pub first_state : ℕ → (text : List ℕ) → State
first_state greatest text = record { tokens = plain_tokens greatest text; rows = []; inputs = []; count = 0 }

-- where a node stands
abbrev pub standing_at : (wanted parent child kid : ℕ) → Standing
standing_at wanted n c i = record { wanted = wanted; parent = n; place = record { child = c; kid = i } }
