-- A schedule with nests that is printed is read back.
use Rattle.std.specs.Prelude.{◌≡◌, List, ℕ, None, Ok}
use Rattle.ftl_tokens.specs.scanner.Tokenized.{Tokenized}
use Rattle.ftl_grammar.specs.reading.Printed.{IsScanned}
use Rattle.ftl_meaning.specs.faults.Checked.{CheckedGrammar}
use Rattle.ftl_meaning.specs.lawful.Faultless.{IsFaultless}
use Rattle.ftl_deps.specs.reads.Meant.{meant}
use Rattle.ftl_order.specs.faults.FaultLaws.{AreComputed}
use Rattle.ftl_schedule.specs.printing.ReadBack.{IsOfText}
use Rattle.ftl_nests.specs.Nests.{outer_schedule}
use Rattle.ftl_nest_check.specs.declared.stages.types.NestingSchedule.{NestingSchedule}
use Rattle.ftl_nest_check.specs.stages.Nested.{AreNestsKept, IsWithinNestLimits, nests_of}
use Rattle.ftl_nest_text.specs.reading.NestLimits.{nest_limit_fault}
use Rattle.ftl_nest_text.specs.reading.NestReading.{NestAnswers, nesting_schedule_of}
use Rattle.ftl_nest_text.specs.text.NestText.{CanBeNestWritten, IsNestTextOf, nesting_schedule_text}
use Rattle.ftl_nest_text.specs.printing.NestWritten.{nest_written_of}

-- a scan of the text finds tokens that spell a written schedule, and this stands for the schedule
pub record IsNestReadBack (c : CheckedGrammar) (s : NestingSchedule) (text : List ℕ) : Type 0 where
  pub spells : IsNestTextOf text (nest_written_of c.grammar s)
  pub is : nesting_schedule_of c (nest_written_of c.grammar s) ≡ Ok s

-- the canonical text of a schedule of computed attributes that keeps the sides of its nests is read back, where each
-- stage has a pass, the names can be said, no inorder pass has a nest, and there are no more passes than there may be
abbrev pub PrintedNestsAreReadBack : Type 0
PrintedNestsAreReadBack =
    (c : CheckedGrammar) (s : NestingSchedule) → IsFaultless c.grammar
    → AreComputed (meant c) (outer_schedule (nests_of s)) → AreNestsKept (meant c) (nests_of s)
    → CanBeNestWritten (nest_written_of c.grammar s)
    → nest_limit_fault (nest_written_of c.grammar s).stages ≡ None
    → IsNestReadBack c s (nesting_schedule_text (nest_written_of c.grammar s))

-- the canonical text of a schedule of computed attributes that keeps the sides of its nests, within the limits on
-- passes, is read back, where the grammar was read from a text: so it is of each schedule that was read or accepted
abbrev pub OfTextsNestsAreReadBack : Type 0
OfTextsNestsAreReadBack =
    (c : CheckedGrammar) (scanned : Tokenized) (s : NestingSchedule) → IsOfText c scanned
    → AreComputed (meant c) (outer_schedule (nests_of s)) → AreNestsKept (meant c) (nests_of s)
    → IsWithinNestLimits (nests_of s)
    → IsNestReadBack c s (nesting_schedule_text (nest_written_of c.grammar s))

-- the canonical text of a schedule that was read is read back
abbrev pub ReadNestsAreReadBack : Type 0
ReadNestsAreReadBack =
    (c : CheckedGrammar) (scanned : Tokenized) (s : NestingSchedule) → IsScanned scanned
    → NestAnswers c scanned (Ok s) → IsNestReadBack c s (nesting_schedule_text (nest_written_of c.grammar s))
