use Rattle.ftl_base.specs.Widths.{greatest_of_width}
use Rattle.ftl_tokens.specs.scanner.Tokenized.{symbols_of}
use Rattle.ftl_meaning.specs.lawful.Faultless.{IsSpelled}
use Rattle.ftl_schedule.specs.printing.WrittenOf.{written_of}
use Rattle.ftl_schedule.proofs.printing.Known.{computed_known}
use Rattle.ftl_schedule.proofs.printing.NamedAgain.{read_back}
use Rattle.ftl_schedule.proofs.printing.ReadAgain.{read_again}
use Rattle.ftl_schedule.proofs.printing.SaidNames.{read_names_said}
use Rattle.ftl_schedule.proofs.printing.Writable.{within_limits, writable}
use Rattle.ftl_schedule.proofs.printing.laws.printed_schedules.Goals as goal

pub returns-clause-read_back : goal.returns-clause-read_back
returns-clause-read_back c checked s faultless computed writable limits =
    read_back checked.grammar faultless.faults faultless.kinds (greatest_of_width checked.width) s computed
    (c.canonical_schedules.ensures.spells (written_of checked.grammar s) writable) limits

-- the names of a grammar that was read can be said
pub returns-clause-of_texts : goal.returns-clause-of_texts
returns-clause-of_texts c checked scanned s of computed limits =
    let g = checked.grammar in
    let spelled : IsSpelled g = (symbols_of scanned, of.is_read.spells) in
    let faultless = c.faultless_grammars_are_lawful.ensures.spelled g spelled of.faults in
    let can =
    writable g s limits (computed_known checked s computed) (read_names_said scanned g of.is_scanned of.is_read) in
    read_back g faultless.faults faultless.kinds (greatest_of_width checked.width) s computed
    (c.canonical_schedules.ensures.spells (written_of g s) can) (within_limits g s limits)

-- those of a schedule that was read, too
pub returns-clause-read : goal.returns-clause-read
returns-clause-read c g scanned s is answer = read_again g scanned s is answer c.canonical_schedules.ensures.spells
