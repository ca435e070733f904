use Rattle.ftl_nest_check.specs.check.NestAccepted.{AcceptedNestingSchedule}
use Rattle.maugzeris_c.proofs.context.Reading.{schedule_then}
use Rattle.maugzeris_c.proofs.context.opening.rules_of.Goals as goal

pub returns-in-Ok-clause-outcome : goal.returns-in-Ok-clause-outcome
returns-in-Ok-clause-outcome c =
    schedule_then c.args.grammar.now c.args.automatic c.args.bytes.now c.in-Ok.text.now
    (λ (r : AcceptedNestingSchedule). r.schedule) c.new-in-Ok.result c.if-automatic.false c.in-Ok.ensures.outcome
    c.new-in-Ok.ensures.outcome
