use Rattle.ftl_meaning.proofs.lawful.Causes.{never_memory}
use Rattle.ftl_meaning.proofs.lawful.lawful.faults_are_of_grammars.Goals as goal

pub returns : goal.returns
returns c = record { memory = never_memory }
