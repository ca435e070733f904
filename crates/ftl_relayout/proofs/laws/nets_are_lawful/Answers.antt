use Rattle.ftl_relayout.proofs.laws.Relaid.{nets_are_lawful}
use Rattle.ftl_relayout.proofs.laws.nets_are_lawful.Goals as goal

pub returns : goal.returns
returns c = record { nets = nets_are_lawful }
