-- Schedules that nest nothing: the definitions of schedules with nests say of them what those of schedules without say.
use Rattle.std.specs.Prelude.{◌≡◌, ◌↔◌, List, Result, Ok, Err}
use Rattle.ftl_example.specs.examples.Numbered.{IsFaultPair}
use Rattle.ftl_example.specs.shows.Examples.{IsExample}
use Rattle.ftl_model.specs.layout.AttributeGrammar.{AttributeGrammar}
use Rattle.ftl_model.specs.layout.Solves.{Instance}
use Rattle.ftl_model.specs.layout.Tree.{Forest}
use Rattle.ftl_grammar.specs.declared.syntax.rules.Grammar.{Grammar}
use Rattle.ftl_meaning.specs.faults.Checked.{CheckedGrammar}
use Rattle.ftl_tokens.specs.scanner.Tokenized.{Tokenized}
use Rattle.ftl_order.specs.faults.FirstFault.{first_fault}
use Rattle.ftl_order.specs.orders.Pairs.{Pair}
use Rattle.ftl_order.specs.orders.Schedule as order
use Rattle.ftl_schedule.specs.declared.stages.types.Schedule.{Schedule}
use Rattle.ftl_schedule.specs.declared.names.fault.ScheduleFault.{ScheduleFault}
use Rattle.ftl_schedule.specs.printing.WrittenOf.{written_of}
use Rattle.ftl_schedule.specs.reading.Read.{IsRead}
use Rattle.ftl_schedule.specs.stages.Stages.{stages_of}
use Rattle.ftl_schedule.specs.text.ScheduleText.{schedule_text}
use Rattle.ftl_nest_check.specs.check.NestFault.{first_nest_fault}
use Rattle.ftl_nest_check.specs.declared.stages.types.NestingSchedule.{NestingSchedule}
use Rattle.ftl_nest_check.specs.stages.Nested.{nests_of}
use Rattle.ftl_example.specs.nests.examples.NestExamples.{IsNestExample}
use Rattle.ftl_example.specs.nests.pairs.NestPair.{IsNestFaultPair}
use Rattle.ftl_nest_text.specs.printing.NestWritten.{nest_written_of}
use Rattle.ftl_nest_text.specs.reading.NestReading.{IsNestRead}
use Rattle.ftl_nest_text.specs.text.NestText.{nesting_schedule_text}
use Rattle.ftl_nests.specs.Flat.{plain}
use Rattle.ftl_nests.specs.Nests.{outer_schedule}

-- it has the stages of that one, and nests nothing
abbrev pub IsPlain : NestingSchedule → (flat : Schedule) → Type 0
IsPlain s flat = nests_of s ≡ plain (stages_of flat)

-- a schedule that nests nothing, with the stages that were found, or the same fault
abbrev pub IsSame : Result NestingSchedule ScheduleFault → Result Schedule ScheduleFault → Type 0
IsSame (Ok s) (Ok flat) = IsPlain s flat
IsSame (Err fault) (Err other) = fault ≡ other
IsSame (Ok s) (Err other) = ⊥
IsSame (Err fault) (Ok flat) = ⊥

-- tokens that spell a schedule without nests are read as that schedule, or refused for the same fault
abbrev pub PlainIsRead : Type 0
PlainIsRead =
    (c : CheckedGrammar) (scanned : Tokenized) (found : Result Schedule ScheduleFault) → IsRead c.grammar scanned found
    → (result : Result NestingSchedule ScheduleFault) × IsNestRead c scanned result × IsSame result found

-- it has the same first fault
abbrev pub PlainHasTheFault : Type 0
PlainHasTheFault =
    (g : AttributeGrammar) (s : order.Schedule) → first_nest_fault g (plain s) ≡ first_fault g s

-- a first fault that is a pair is of the same pair
abbrev pub PlainHasThePair : Type 0
PlainHasThePair =
    (g : AttributeGrammar) (s : order.Schedule) (pair : Pair) → IsNestFaultPair g (plain s) pair ↔ IsFaultPair g s pair

-- which has the same examples
abbrev pub PlainHasTheExamples : Type 0
PlainHasTheExamples =
    (g : AttributeGrammar) (s : order.Schedule) (pair : Pair) (t : Forest) (r w : Instance) (steps : List Instance)
    → IsNestExample g (plain s) pair t r w steps ↔ IsExample g s pair t r w steps

-- its outer stages are its stages
abbrev pub PlainIsOuter : Type 0
PlainIsOuter = (s : order.Schedule) → outer_schedule (plain s) ≡ s

-- it is printed as before
abbrev pub PlainIsPrinted : Type 0
PlainIsPrinted =
    (g : Grammar) (s : NestingSchedule) (flat : Schedule) → IsPlain s flat
    → nesting_schedule_text (nest_written_of g s) ≡ schedule_text (written_of g flat)
