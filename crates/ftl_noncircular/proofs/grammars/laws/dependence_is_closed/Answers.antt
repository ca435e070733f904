use Rattle.ftl_noncircular.proofs.grammars.Found.{dependence_is_closed}
use Rattle.ftl_noncircular.proofs.grammars.laws.dependence_is_closed.Goals as goal

pub returns : goal.returns
returns c = record { closed = λ g. dependence_is_closed g }
