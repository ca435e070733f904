-- What the reader of schedules with nests answers.
use Rattle.std.specs.Prelude.{◌≡◌, ◌⊎◌, ℕ, Option, Some, None, Result, Err}
use Rattle.ftl_model.specs.layout.Outcome.{Gives}
use Rattle.ftl_tokens.specs.scanner.Tokenized.{Tokenized, symbols_of}
use Rattle.ftl_meaning.specs.faults.Checked.{CheckedGrammar}
use Rattle.ftl_schedule.specs.declared.names.fault.ScheduleFault.{ScheduleFault}
use Rattle.ftl_schedule.specs.declared.names.fault.ScheduleFault.TheVariants.{OutOfMemory, Syntax}
use Rattle.ftl_nest_check.specs.declared.stages.types.NestingSchedule.{NestingSchedule}
use Rattle.ftl_nest_text.specs.declared.syntax.types.WrittenNestingSchedule.{WrittenNestingSchedule}
use Rattle.ftl_nest_text.specs.syntax.NestRead.{IsNoNestingSchedule}
use Rattle.ftl_nest_text.specs.syntax.NestSpelling.{SpellsNestingSchedule}
use Rattle.ftl_nest_text.specs.names.NestNamed.{nesting_schedule_named}
use Rattle.ftl_nest_text.specs.reading.NestLimits.{nest_limit_fault}

-- the fault, or else what the schedule's names stand for
abbrev pub unless : Option ScheduleFault → Result NestingSchedule ScheduleFault → Result NestingSchedule ScheduleFault
unless (Some fault) later = Err fault
unless None later = later

-- the schedule that a written one stands for, or its first fault: of the limits, then of the names
abbrev pub nesting_schedule_of : CheckedGrammar → WrittenNestingSchedule → Result NestingSchedule ScheduleFault
nesting_schedule_of c w = unless (nest_limit_fault w.stages) (nesting_schedule_named c w)

-- unless memory runs out, the answer is this
abbrev pub Is : Result NestingSchedule ScheduleFault → Result NestingSchedule ScheduleFault → Type 0
Is result expected = Gives OutOfMemory (λ s. s) result expected

-- the tokens go wrong at a place, and the answer is that
pub record IsNestRefused (scanned : Tokenized) (result : Result NestingSchedule ScheduleFault) : Type 0 where
  pub at : ℕ
  pub none : IsNoNestingSchedule scanned at
  pub answer : Is result (Err (Syntax at))

-- the tokens spell a written schedule, and the answer is what it stands for, or its first fault
pub record IsNestRead (c : CheckedGrammar) (scanned : Tokenized) (result : Result NestingSchedule ScheduleFault)
    : Type 0 where
  pub written : WrittenNestingSchedule
  pub spells : SpellsNestingSchedule (symbols_of scanned) written
  pub answer : Is result (nesting_schedule_of c written)

-- one of both, or memory ran out
abbrev pub NestAnswers : CheckedGrammar → Tokenized → Result NestingSchedule ScheduleFault → Type 0
NestAnswers c scanned result =
    IsNestRefused scanned result ⊎ (IsNestRead c scanned result ⊎ (result ≡ Err OutOfMemory))
