-- What the reader of schedules answers: the schedule that the tokens spell, or the place at which they go wrong, or
-- that memory ran out.
use Rattle.std.specs.Prelude.{ℕ, Result, Ok, Err}
use Rattle.ftl_tokens.specs.scanner.Tokenized.{Tokenized, symbols_of}
use Rattle.ftl_tokens.specs.reading.Place.{IsFaultPlace}
use Rattle.ftl_schedule.specs.declared.syntax.types.WrittenSchedule.{WrittenSchedule}
use Rattle.ftl_schedule.specs.declared.syntax.fault.WrittenFault.{WrittenFault}
use Rattle.ftl_schedule.specs.declared.syntax.fault.WrittenFault.TheVariants.{Syntax, OutOfMemory}
use Rattle.ftl_schedule.specs.syntax.Spelling.{SpellsSchedule}

-- the tokens spell no schedule, and this is the place at which they go wrong
pub record IsNoSchedule (scanned : Tokenized) (at : ℕ) : Type 0 where
  pub none : (s : WrittenSchedule) → SpellsSchedule (symbols_of scanned) s → ⊥
  pub place : IsFaultPlace SpellsSchedule scanned at

-- a schedule is the one that the tokens spell, and a fault of syntax has its cause at its place
abbrev pub ReadsSchedule : Tokenized → Result WrittenSchedule WrittenFault → Type 0
ReadsSchedule scanned (Ok s) = SpellsSchedule (symbols_of scanned) s
ReadsSchedule scanned (Err (Syntax at)) = IsNoSchedule scanned at
ReadsSchedule scanned (Err OutOfMemory) = Unit {0}
