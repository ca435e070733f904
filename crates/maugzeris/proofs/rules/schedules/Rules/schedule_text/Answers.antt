use Rattle.std.proofs.Common.{◌≡◌, ◌∙◌, ap, sym, subst, string_bytes, List, ℕ, Some}
use Rattle.ftl_answer.specs.answers.Stages.{hands_on}
use Rattle.ftl_answer.specs.answers.Texts.{schedule}
use Rattle.ftl_meaning.specs.faults.Checked.{CheckedGrammar}
use Rattle.ftl_nest_check.specs.check.NestAccepted.{AcceptedNestingSchedule}
use Rattle.ftl_nest_check.specs.declared.stages.types.NestingSchedule.{NestingSchedule}
use Rattle.ftl_nest_text.specs.printing.NestWritten.{nest_written_of}
use Rattle.ftl_nest_text.specs.text.NestText.{nesting_schedule_text}
use Rattle.maugzeris.proofs.rules.ReadBack.{schedule_back}
use Rattle.maugzeris.proofs.rules.schedules.Rules.schedule_text.Goals as goal

pub returns-clause-read_back : goal.returns-clause-read_back
returns-clause-read_back c = λ text utf8 came.
    let r = c.args.self.now in
    let is : string_bytes c.in_ok-text.text ≡ nesting_schedule_text (nest_written_of r.checked.grammar r.schedule) =
    c.in_ok-text.ensures.text
    ∙ ap (λ (k : CheckedGrammar). nesting_schedule_text (nest_written_of k.grammar c.schedule.result.now))
    (c.checked.ensures.grammar ∙ ap (λ (a : AcceptedNestingSchedule). a.checked) c.schedule-accepted.ensures.schedule)
    ∙ ap (λ (s : NestingSchedule). nesting_schedule_text (nest_written_of r.checked.grammar s))
    (c.schedule.ensures.schedule ∙ ap (λ (a : AcceptedNestingSchedule). a.schedule) c.schedule-accepted.ensures.schedule)
    in
    subst (λ (s : List ℕ). schedule r.checked (Some s) (hands_on r.schedule)) (sym is)
    (schedule_back c.printed_nesting_schedules.ensures.read r.checked r.schedule text utf8 came)
