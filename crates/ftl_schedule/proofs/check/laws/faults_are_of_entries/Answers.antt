use Rattle.ftl_schedule.proofs.check.NeverMemory.{never_memory}
use Rattle.ftl_schedule.proofs.check.laws.faults_are_of_entries.Goals as goal

pub returns : goal.returns
returns c = record { memory = never_memory }
