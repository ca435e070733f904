use Rattle.ftl_nest_check.proofs.check.NestFaults.{faultless}
use Rattle.ftl_nest_check.proofs.check.laws.faultless_is_nest_ordered.Goals as goal

pub returns : goal.returns
returns c = record { ordered = faultless }
