-- A schedule that was read is read again from its canonical text.
use Rattle.std.proofs.Common.{◌≡◌, Ok, sym, ◌∙◌, ap, subst}
use Rattle.ftl_tokens.specs.scanner.Tokenized.{Tokenized}
use Rattle.ftl_tokens.proofs.scanner.TokenLemmas.{are_tokens_of}
use Rattle.ftl_grammar.specs.declared.syntax.rules.Grammar.{Grammar}
use Rattle.ftl_grammar.specs.reading.Printed.{IsScanned}
use Rattle.ftl_grammar.proofs.printing.CanonicalTexts.{tokens_said}
use Rattle.ftl_schedule.specs.declared.syntax.types.WrittenSchedule.{WrittenSchedule}
use Rattle.ftl_schedule.specs.declared.stages.types.Schedule.{Schedule}
use Rattle.ftl_schedule.specs.names.Named.{schedule_named}
use Rattle.ftl_schedule.specs.printing.ReadBack.{IsReadBack}
use Rattle.ftl_schedule.specs.printing.WrittenOf.{written_of}
use Rattle.ftl_schedule.specs.reading.Read.{Answers, schedule_of, unless}
use Rattle.ftl_schedule.specs.text.ScheduleText.{CanBeWritten, IsTextOf, schedule_text}
use Rattle.ftl_schedule.proofs.printing.NamedBack.{schedule_back}
use Rattle.ftl_schedule.proofs.printing.SpelledNames.{spelled_writable}
use Rattle.ftl_schedule.proofs.reading.ReadFrom.{read_from}

pub read_again : (g : Grammar) (scanned : Tokenized) (s : Schedule) → IsScanned scanned → Answers g scanned (Ok s)
    → ((w : WrittenSchedule) → CanBeWritten w → IsTextOf (schedule_text w) w)
    → IsReadBack g s (schedule_text (written_of g s))
read_again g scanned s is answer spells =
    let read = read_from g scanned s answer in
    let w = read.written in
    let back : written_of g s ≡ w = schedule_back g 0 w s read.named in
    let said =
    tokens_said scanned.text 0 scanned.tokens is.utf8
    (are_tokens_of 2147483647 scanned.text scanned.tokens is.utf8 is.tokens) in
    let again : schedule_of g w ≡ Ok s = ap (λ o. unless o (schedule_named g w)) read.limits ∙ read.named in
    record {
      spells = spells (written_of g s) (subst CanBeWritten (sym back) (spelled_writable read.spells said));
      is = subst (λ (x : WrittenSchedule). schedule_of g x ≡ Ok s) (sym back) again;
    }
