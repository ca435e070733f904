-- What a schedule with nests that was read comes from.
use Rattle.std.proofs.Common.{◌≡◌, Option, Some, None, Result, Ok, Err, ⊎_elim, refl}
use Rattle.std.specs.Prelude.{IfOk}
use Rattle.ftl_tokens.specs.scanner.Tokenized.{Tokenized, symbols_of}
use Rattle.ftl_meaning.specs.faults.Checked.{CheckedGrammar}
use Rattle.ftl_schedule.specs.declared.names.fault.ScheduleFault.{ScheduleFault}
use Rattle.ftl_nest_check.specs.declared.stages.types.NestingSchedule.{NestingSchedule}
use Rattle.ftl_nest_text.specs.declared.syntax.types.WrittenNestingSchedule.{WrittenNestingSchedule}
use Rattle.ftl_nest_text.specs.syntax.NestSpelling.{SpellsNestingSchedule}
use Rattle.ftl_nest_text.specs.names.NestNamed.{nesting_schedule_named}
use Rattle.ftl_nest_text.specs.reading.NestLimits.{nest_limit_fault}
use Rattle.ftl_nest_text.specs.reading.NestReading.{NestAnswers, unless}

-- the tokens spell a written schedule within the limits, whose names stand for the schedule
pub record IsNestReadFrom (c : CheckedGrammar) (scanned : Tokenized) (s : NestingSchedule) : Type 0 where
  pub written : WrittenNestingSchedule
  pub spells : SpellsNestingSchedule (symbols_of scanned) written
  pub limits : nest_limit_fault written.stages ≡ None
  pub named : nesting_schedule_named c written ≡ Ok s

without_fault : (o : Option ScheduleFault) (later : Result NestingSchedule ScheduleFault) (s : NestingSchedule)
    → unless o later ≡ Ok s → (o ≡ None) × (later ≡ Ok s)
without_fault (Some fault) later s e = absurd (cc e)
without_fault None later s e = (refl, e)

pub read_from : (c : CheckedGrammar) (scanned : Tokenized) (s : NestingSchedule) → NestAnswers c scanned (Ok s)
    → IsNestReadFrom c scanned s
read_from c scanned s answer =
    ⊎_elim (λ refused. absurd (cc refused.answer))
    (λ others. ⊎_elim
    (λ read.
    let w = read.written in
    let both = without_fault (nest_limit_fault w.stages) (nesting_schedule_named c w) s read.answer in
    record { written = w; spells = read.spells; limits = both.0; named = both.1 })
    (λ lost. absurd (cc lost)) others) answer

-- what holds of each schedule that was read holds of the answer
pub if_read : (c : CheckedGrammar) (scanned : Tokenized) (P : NestingSchedule → Type 0)
    → ((s : NestingSchedule) → NestAnswers c scanned (Ok s) → P s)
    → (r : Result NestingSchedule ScheduleFault) → NestAnswers c scanned r → IfOk r P
if_read c scanned P holds (Ok s) answer = holds s answer
if_read c scanned P holds (Err fault) answer = tt
