use Rattle.std.proofs.Common.{◌∙◌, sym}
use Rattle.ftl_answer.proofs.reading.sections.limits.within_limits.Goals as goal

pub returns-clause-fits : goal.returns-clause-fits
returns-clause-fits c = sym c.in_ok-fault.ensures.fault ∙ c.in-None.is
