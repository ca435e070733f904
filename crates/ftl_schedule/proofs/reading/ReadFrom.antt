-- What a schedule that was read comes from.
use Rattle.std.proofs.Common.{◌≡◌, Option, Some, None, Result, Ok, Err, ⊎_elim, refl}
use Rattle.std.specs.Prelude.{IfOk}
use Rattle.ftl_tokens.specs.scanner.Tokenized.{Tokenized, symbols_of}
use Rattle.ftl_grammar.specs.declared.syntax.rules.Grammar.{Grammar}
use Rattle.ftl_schedule.specs.syntax.Spelling.{SpellsSchedule}
use Rattle.ftl_schedule.specs.declared.syntax.types.WrittenSchedule.{WrittenSchedule}
use Rattle.ftl_schedule.specs.declared.stages.types.Schedule.{Schedule}
use Rattle.ftl_schedule.specs.names.Named.{schedule_named}
use Rattle.ftl_schedule.specs.declared.names.fault.ScheduleFault.{ScheduleFault}
use Rattle.ftl_schedule.specs.reading.Limits.{limit_fault}
use Rattle.ftl_schedule.specs.reading.Read.{Answers, unless}

-- the tokens spell a written schedule within the limits, whose names stand for the schedule
pub record IsReadFrom (g : Grammar) (scanned : Tokenized) (s : Schedule) : Type 0 where
  pub written : WrittenSchedule
  pub spells : SpellsSchedule (symbols_of scanned) written
  pub limits : limit_fault written.stages ≡ None
  pub named : schedule_named g written ≡ Ok s

pub without_fault : (o : Option ScheduleFault) (later : Result Schedule ScheduleFault) (s : Schedule)
    → unless o later ≡ Ok s → (o ≡ None) × (later ≡ Ok s)
without_fault (Some fault) later s e = absurd (cc e)
without_fault None later s e = (refl, e)

pub read_from : (g : Grammar) (scanned : Tokenized) (s : Schedule) → Answers g scanned (Ok s) → IsReadFrom g scanned s
read_from g scanned s answer =
    ⊎_elim (λ refused. absurd (cc refused.answer))
    (λ others. ⊎_elim
    (λ read.
    let w = read.written in
    let both = without_fault (limit_fault w.stages) (schedule_named g w) s read.answer in
    record { written = w; spells = read.spells; limits = both.0; named = both.1 })
    (λ lost. absurd (cc lost)) others) answer

-- what holds of each schedule that was read holds of the answer
pub if_read : (g : Grammar) (scanned : Tokenized) (P : Schedule → Type 0)
    → ((s : Schedule) → Answers g scanned (Ok s) → P s)
    → (r : Result Schedule ScheduleFault) → Answers g scanned r → IfOk r P
if_read g scanned P holds (Ok s) answer = holds s answer
if_read g scanned P holds (Err fault) answer = tt
