use Rattle.ftl_document.proofs.faults.FaultKinds.{first_is_of_nodes}
use Rattle.ftl_document.proofs.faults.laws.faults_are_of_nodes.Goals as goal

pub returns : goal.returns
returns c = record { kind = first_is_of_nodes }
