use Rattle.ftl_step_value.proofs.limits.faults.NeverMemory.{never_memory}
use Rattle.ftl_step_value.proofs.limits.faults.laws.faults_are_of_stages.Goals as goal

pub returns : goal.returns
returns c = record { memory = never_memory }
