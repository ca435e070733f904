use Rattle.ftl_noncircular.proofs.grammars.FirstFound.{decides}
use Rattle.ftl_noncircular.proofs.grammars.laws.circles_are_decided.Goals as goal

pub returns : goal.returns
returns c = record { decided = λ g. decides g }
