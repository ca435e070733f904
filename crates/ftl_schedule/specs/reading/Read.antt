-- What the reader of schedules answers.
use Rattle.std.specs.Prelude.{◌≡◌, ◌⊎◌, ℕ, Option, Some, None, Result, Ok, Err}
use Rattle.ftl_model.specs.layout.Outcome.{Gives}
use Rattle.ftl_tokens.specs.scanner.Tokenized.{Tokenized, symbols_of}
use Rattle.ftl_grammar.specs.declared.syntax.rules.Grammar.{Grammar}
use Rattle.ftl_schedule.specs.syntax.Read.{IsNoSchedule}
use Rattle.ftl_schedule.specs.syntax.Spelling.{SpellsSchedule}
use Rattle.ftl_schedule.specs.declared.syntax.types.WrittenSchedule.{WrittenSchedule}
use Rattle.ftl_schedule.specs.declared.stages.types.Schedule.{Schedule}
use Rattle.ftl_schedule.specs.names.Named.{schedule_named}
use Rattle.ftl_schedule.specs.declared.names.fault.ScheduleFault.{ScheduleFault}
use Rattle.ftl_schedule.specs.declared.names.fault.ScheduleFault.TheVariants.{OutOfMemory, Syntax}
use Rattle.ftl_schedule.specs.reading.Limits.{limit_fault}

-- the fault, or else what the schedule's names stand for
abbrev pub unless : Option ScheduleFault → Result Schedule ScheduleFault → Result Schedule ScheduleFault
unless (Some fault) later = Err fault
unless None later = later

-- the schedule that a written one stands for, or its first fault: of the limits, then of the names
abbrev pub schedule_of : Grammar → WrittenSchedule → Result Schedule ScheduleFault
schedule_of g w = unless (limit_fault w.stages) (schedule_named g w)

-- unless memory runs out, the answer is this
abbrev pub Is : Result Schedule ScheduleFault → Result Schedule ScheduleFault → Type 0
Is result expected = Gives OutOfMemory (λ s. s) result expected

-- the tokens go wrong at a place, and the answer is that
pub record IsRefused (scanned : Tokenized) (result : Result Schedule ScheduleFault) : Type 0 where
  pub at : ℕ
  pub none : IsNoSchedule scanned at
  pub answer : Is result (Err (Syntax at))

-- the tokens spell a written schedule, and the answer is what it stands for, or its first fault
pub record IsRead (g : Grammar) (scanned : Tokenized) (result : Result Schedule ScheduleFault) : Type 0 where
  pub written : WrittenSchedule
  pub spells : SpellsSchedule (symbols_of scanned) written
  pub answer : Is result (schedule_of g written)

-- one of both, or memory ran out
abbrev pub Answers : Grammar → Tokenized → Result Schedule ScheduleFault → Type 0
Answers g scanned result = IsRefused scanned result ⊎ (IsRead g scanned result ⊎ (result ≡ Err OutOfMemory))
