-- A schedule that is printed is read back.
use Rattle.std.specs.Prelude.{◌≡◌, List, ℕ, None, Ok}
use Rattle.ftl_tokens.specs.scanner.Tokenized.{Tokenized}
use Rattle.ftl_meaning.specs.faults.Checked.{CheckedGrammar}
use Rattle.ftl_grammar.specs.declared.syntax.rules.Grammar.{Grammar}
use Rattle.ftl_grammar.specs.reading.Printed.{IsScanned}
use Rattle.ftl_grammar.specs.reading.Read.{ReadsGrammar}
use Rattle.ftl_meaning.specs.faults.FirstFault.{first_fault}
use Rattle.ftl_deps.specs.reads.Meant.{meant}
use Rattle.ftl_meaning.specs.lawful.Faultless.{IsFaultless}
use Rattle.ftl_order.specs.faults.FaultLaws.{AreComputed}
use Rattle.ftl_schedule.specs.reading.Limits.{limit_fault}
use Rattle.ftl_schedule.specs.reading.Read.{Answers, schedule_of}
use Rattle.ftl_schedule.specs.text.ScheduleText.{CanBeWritten, IsTextOf, schedule_text}
use Rattle.ftl_schedule.specs.stages.PassLimits.{IsWithinPassLimits}
use Rattle.ftl_schedule.specs.stages.Stages.{stages_of}
use Rattle.ftl_schedule.specs.declared.stages.types.Schedule.{Schedule}
use Rattle.ftl_schedule.specs.printing.WrittenOf.{written_of}

-- a scan of the text finds tokens that spell a written schedule, and this stands for the schedule
pub record IsReadBack (g : Grammar) (s : Schedule) (text : List ℕ) : Type 0 where
  pub spells : IsTextOf text (written_of g s)
  pub is : schedule_of g (written_of g s) ≡ Ok s

-- the canonical text of a schedule of computed attributes is read back, where each stage has a pass, the names can be
-- said, and there are no more passes than there may be
abbrev pub PrintedAreReadBack : Type 0
PrintedAreReadBack =
    (c : CheckedGrammar) (s : Schedule) → IsFaultless c.grammar → AreComputed (meant c) (stages_of s)
    → CanBeWritten (written_of c.grammar s) → limit_fault (written_of c.grammar s).stages ≡ None
    → IsReadBack c.grammar s (schedule_text (written_of c.grammar s))

-- the grammar was read from a text, and has no fault
pub record IsOfText (c : CheckedGrammar) (scanned : Tokenized) : Type 0 where
  pub is_scanned : IsScanned scanned
  pub is_read : ReadsGrammar scanned (Ok c.grammar)
  pub faults : first_fault c.grammar ≡ None

-- the canonical text of a schedule of computed attributes within the limits on passes is read back, where the grammar
-- was read from a text: so it is of each schedule that was read, accepted or found
abbrev pub OfTextsAreReadBack : Type 0
OfTextsAreReadBack =
    (c : CheckedGrammar) (scanned : Tokenized) (s : Schedule) → IsOfText c scanned → AreComputed (meant c) (stages_of s)
    → IsWithinPassLimits (stages_of s) → IsReadBack c.grammar s (schedule_text (written_of c.grammar s))

-- the canonical text of a schedule that was read is read back
abbrev pub ReadAreReadBack : Type 0
ReadAreReadBack =
    (g : Grammar) (scanned : Tokenized) (s : Schedule) → IsScanned scanned → Answers g scanned (Ok s)
    → IsReadBack g s (schedule_text (written_of g s))
