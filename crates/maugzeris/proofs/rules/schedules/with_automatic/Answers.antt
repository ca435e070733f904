use Rattle.std.proofs.Common.{None}
use Rattle.ftl_answer.specs.answers.Texts.{schedule}
use Rattle.ftl_nest_check.specs.check.NestAccepted.{AcceptedNestingSchedule}
use Rattle.maugzeris.proofs.refusals.Ways.{told_of}
use Rattle.maugzeris.proofs.rules.schedules.with_automatic.Goals as goal

pub returns-in-Err-clause-outcome : goal.returns-in-Err-clause-outcome
returns-in-Err-clause-outcome c =
    told_of (λ k. schedule k None) (λ (s : AcceptedNestingSchedule). s.schedule)
    (λ (r : AcceptedNestingSchedule). r.schedule) c.args.grammar.now c.checked.result.now
    c.in-Err.end c.refusal_of.result c.checked.ensures.checked c.refusal_of.ensures.refusal c.in-Err.ensures.outcome
