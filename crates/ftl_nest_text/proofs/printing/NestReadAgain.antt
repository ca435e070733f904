-- A schedule with nests that was read is read again from its canonical text.
use Rattle.std.proofs.Common.{◌≡◌, Ok, sym, ◌∙◌, ap, subst}
use Rattle.ftl_deps.specs.reads.Meant.{meant}
use Rattle.ftl_meaning.specs.faults.Checked.{CheckedGrammar}
use Rattle.ftl_tokens.specs.scanner.Tokenized.{Tokenized}
use Rattle.ftl_tokens.proofs.scanner.TokenLemmas.{are_tokens_of}
use Rattle.ftl_grammar.specs.reading.Printed.{IsScanned}
use Rattle.ftl_grammar.proofs.printing.CanonicalTexts.{tokens_said}
use Rattle.ftl_nest_check.specs.declared.stages.types.NestingSchedule.{NestingSchedule}
use Rattle.ftl_nest_text.specs.declared.syntax.types.WrittenNestingSchedule.{WrittenNestingSchedule}
use Rattle.ftl_nest_text.specs.names.NestNamed.{nesting_schedule_named}
use Rattle.ftl_nest_text.specs.names.RegionTests.{region_tests}
use Rattle.ftl_nest_text.specs.reading.NestReading.{NestAnswers, nesting_schedule_of, unless}
use Rattle.ftl_nest_text.specs.text.NestText.{CanBeNestWritten, IsNestTextOf, nesting_schedule_text}
use Rattle.ftl_nest_text.specs.printing.NestReadBack.{IsNestReadBack}
use Rattle.ftl_nest_text.specs.printing.NestWritten.{nest_written_of}
use Rattle.ftl_nest_text.proofs.printing.NestNamedBack.{schedule_back}
use Rattle.ftl_nest_text.proofs.printing.NestSpelledNames.{spelled_nest_writable}
use Rattle.ftl_nest_text.proofs.reading.NestReadFrom.{read_from}

pub read_again : (c : CheckedGrammar) (scanned : Tokenized) (s : NestingSchedule) → IsScanned scanned
    → NestAnswers c scanned (Ok s)
    → ((w : WrittenNestingSchedule) → CanBeNestWritten w → IsNestTextOf (nesting_schedule_text w) w)
    → IsNestReadBack c s (nesting_schedule_text (nest_written_of c.grammar s))
read_again c scanned s is answer spells =
    let read = read_from c scanned s answer in
    let w = read.written in
    let back : nest_written_of c.grammar s ≡ w = schedule_back (region_tests (meant c)) c.grammar w s read.named in
    let said =
    tokens_said scanned.text 0 scanned.tokens is.utf8
    (are_tokens_of 2147483647 scanned.text scanned.tokens is.utf8 is.tokens) in
    let again : nesting_schedule_of c w ≡ Ok s =
    ap (λ o. unless o (nesting_schedule_named c w)) read.limits ∙ read.named in
    record {
      spells = spells (nest_written_of c.grammar s)
          (subst CanBeNestWritten (sym back) (spelled_nest_writable read.spells said));
      is = subst (λ (x : WrittenNestingSchedule). nesting_schedule_of c x ≡ Ok s) (sym back) again;
    }
