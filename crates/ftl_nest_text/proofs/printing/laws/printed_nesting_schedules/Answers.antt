use Rattle.std.proofs.Common.{◌<◌, sym, subst}
use Rattle.ftl_checked.proofs.lookup.AttrInfos.{attribute_count_is}
use Rattle.ftl_tokens.specs.scanner.Tokenized.{symbols_of}
use Rattle.ftl_meaning.specs.lawful.Faultless.{IsSpelled}
use Rattle.ftl_schedule.proofs.printing.SaidNames.{read_names_said}
use Rattle.ftl_nest_text.specs.printing.NestWritten.{nest_written_of}
use Rattle.ftl_nest_text.proofs.printing.NestNamedAgain.{AreSaid, nests_back, whole_entry}
use Rattle.ftl_nest_text.proofs.printing.NestReadAgain.{read_again}
use Rattle.ftl_nest_text.proofs.printing.NestSaidNames.{class_said, names_written}
use Rattle.ftl_nest_text.proofs.printing.NestWritable.{within_limits, writable}
use Rattle.ftl_nest_text.proofs.printing.laws.printed_nesting_schedules.Goals as goal

pub returns-clause-read_back : goal.returns-clause-read_back
returns-clause-read_back c checked s faultless computed kept can limits =
    nests_back checked faultless s computed kept (names_written checked.grammar s can)
    (c.canonical_nesting_schedules.ensures.spells (nest_written_of checked.grammar s) can) limits

-- the names of a grammar that was read can be said
pub returns-clause-of_texts : goal.returns-clause-of_texts
returns-clause-of_texts c checked scanned s of computed kept limits =
    let g = checked.grammar in
    let spelled : IsSpelled g = (symbols_of scanned, of.is_read.spells) in
    let faultless = c.faultless_grammars_are_lawful.ensures.spelled g spelled of.faults in
    let said : AreSaid g s =
    λ t stage p pass a there.
    read_names_said scanned g of.is_scanned of.is_read a
    (subst (λ n. a < n) (sym (attribute_count_is g)) (computed a (whole_entry s t stage p pass a there)).0) in
    let can = writable checked s limits kept said (class_said scanned g of.is_scanned of.is_read) in
    nests_back checked faultless s computed kept said
    (c.canonical_nesting_schedules.ensures.spells (nest_written_of g s) can) (within_limits g s limits)

-- those of a schedule that was read, too
pub returns-clause-read : goal.returns-clause-read
returns-clause-read c checked scanned s is answer =
    read_again checked scanned s is answer c.canonical_nesting_schedules.ensures.spells
