use Rattle.ftl_run.specs.calls.SolvedPages.{LeadsTo}
use Rattle.ftl_run.proofs.calls.Leading.{exit, grammar_ends, rules_lead}
use Rattle.ftl_run.proofs.calls.solving.rules_of.Goals as goal

pub returns-in_err-checked-clause-outcome : goal.returns-in_err-checked-clause-outcome
returns-in_err-checked-clause-outcome c =
    let bytes = c.args.bytes.items in
    exit (LeadsTo c.args.need bytes) c.from_residual-in_err-checked.result c.in_err-checked.field-0.0
    c.from_residual-in_err-checked.ensures.1
    (grammar_ends c.args.need bytes c.in_ok-width.field-0 c.in_ok-width.ensures.outcome c.in_err-checked.field-0.0
    c.in_err-checked.ensures.outcome)

pub returns-clause-outcome : goal.returns-clause-outcome
returns-clause-outcome c =
    rules_lead c.args.need c.args.bytes.items c.in_ok-width.field-0 c.in_ok-width.ensures.outcome
    c.in_ok-checked.checked c.in_ok-checked.ensures.outcome
