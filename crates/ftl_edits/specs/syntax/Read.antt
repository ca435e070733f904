-- What the reader of written edits answers: the edits that the tokens spell, or the place at which they go wrong, or
-- that memory ran out.
use Rattle.std.specs.Prelude.{ℕ, List, Result, Ok, Err}
use Rattle.std.specs.List.{All}
use Rattle.ftl_model.specs.layout.TreeOf.{IsInput}
use Rattle.ftl_tokens.specs.scanner.Tokenized.{Tokenized, WideTokenized, symbols_of}
use Rattle.ftl_tokens.specs.reading.Place.{IsFaultPlace}
use Rattle.ftl_edits.specs.declared.syntax.written.WrittenEdit.{WrittenEdit}
use Rattle.ftl_edits.specs.declared.syntax.fault.WrittenEditsFault.{WrittenEditsFault}
use Rattle.ftl_edits.specs.declared.syntax.fault.WrittenEditsFault.TheVariants.{Syntax, OutOfMemory}
use Rattle.ftl_edits.specs.syntax.Spelling.{SpellsEdits}

-- the tokens spell no edits, and this is the place at which they go wrong
pub record IsNoEdits (scanned : Tokenized) (at : ℕ) : Type 0 where
  pub none : (edits : List WrittenEdit) → SpellsEdits (symbols_of scanned) edits → ⊥
  pub place : IsFaultPlace SpellsEdits scanned at

-- the edits are those that the tokens spell, and a fault of syntax has its cause at its place
abbrev pub ReadsWritten : WideTokenized → Result (List WrittenEdit) WrittenEditsFault → Type 0
ReadsWritten scanned (Ok edits) = SpellsEdits (symbols_of scanned.tokenized) edits
ReadsWritten scanned (Err (Syntax at)) = IsNoEdits scanned.tokenized at
ReadsWritten scanned (Err OutOfMemory) = Unit {0}

-- the value of each edit is from minus the greatest number to that number
abbrev pub AreWithin : (greatest : ℕ) → List WrittenEdit → Type 0
AreWithin greatest edits = All (λ e. IsInput greatest e.value) edits
