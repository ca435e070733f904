-- What the reader of schedules with nests answers: the schedule that the tokens spell, or the place at which they go
-- wrong, or that memory ran out.
use Rattle.std.specs.Prelude.{ℕ, Result, Ok, Err}
use Rattle.ftl_tokens.specs.scanner.Tokenized.{Tokenized, symbols_of}
use Rattle.ftl_tokens.specs.reading.Place.{IsFaultPlace}
use Rattle.ftl_schedule.specs.declared.syntax.fault.WrittenFault.{WrittenFault}
use Rattle.ftl_schedule.specs.declared.syntax.fault.WrittenFault.TheVariants.{Syntax, OutOfMemory}
use Rattle.ftl_nest_text.specs.declared.syntax.types.WrittenNestingSchedule.{WrittenNestingSchedule}
use Rattle.ftl_nest_text.specs.syntax.NestSpelling.{SpellsNestingSchedule}

-- the tokens spell no schedule, and this is the place at which they go wrong
pub record IsNoNestingSchedule (scanned : Tokenized) (at : ℕ) : Type 0 where
  pub none : (s : WrittenNestingSchedule) → SpellsNestingSchedule (symbols_of scanned) s → ⊥
  pub place : IsFaultPlace SpellsNestingSchedule scanned at

-- a schedule is the one that the tokens spell, and a fault of syntax has its cause at its place
abbrev pub ReadsNestingSchedule : Tokenized → Result WrittenNestingSchedule WrittenFault → Type 0
ReadsNestingSchedule scanned (Ok s) = SpellsNestingSchedule (symbols_of scanned) s
ReadsNestingSchedule scanned (Err (Syntax at)) = IsNoNestingSchedule scanned at
ReadsNestingSchedule scanned (Err OutOfMemory) = Unit {0}
