use Rattle.ftl_nest_check.proofs.check.NestFaults.{nest_fault_never}
use Rattle.ftl_nest_check.proofs.check.laws.nest_faults_are_of_entries.Goals as goal

pub returns : goal.returns
returns c = record { memory = λ g s. nest_fault_never g s }
