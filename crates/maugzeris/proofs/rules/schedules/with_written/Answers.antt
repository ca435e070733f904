use Rattle.std.proofs.Common.{Some, string_bytes, subst}
use Rattle.ftl_answer.specs.answers.Stages.{hands_on}
use Rattle.ftl_answer.specs.answers.Texts.{schedule}
use Rattle.ftl_meaning.specs.faults.Checked.{CheckedGrammar}
use Rattle.ftl_nest_check.specs.check.NestAccepted.{AcceptedNestingSchedule}
use Rattle.maugzeris.proofs.refusals.Ways.{told_of}
use Rattle.maugzeris.proofs.rules.schedules.with_written.Goals as goal

pub returns-in-Ok-clause-outcome : goal.returns-in-Ok-clause-outcome
returns-in-Ok-clause-outcome c =
    subst
    (λ (k : CheckedGrammar). schedule k (Some (string_bytes c.args.text)) (hands_on c.in-Ok.schedule.schedule))
    c.checked.ensures.checked c.in-Ok.ensures.outcome

pub returns-in-Err-clause-outcome : goal.returns-in-Err-clause-outcome
returns-in-Err-clause-outcome c =
    told_of (λ k. schedule k (Some (string_bytes c.args.text))) (λ (s : AcceptedNestingSchedule). s.schedule)
    (λ (r : AcceptedNestingSchedule). r.schedule)
    c.args.grammar.now c.checked.result.now c.in-Err.end c.refusal_of.result c.checked.ensures.checked
    c.refusal_of.ensures.refusal c.in-Err.ensures.outcome
