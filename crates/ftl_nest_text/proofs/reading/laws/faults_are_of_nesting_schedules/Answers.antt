use Rattle.ftl_nest_text.proofs.reading.NestAnswerLemmas.{never_memory}
use Rattle.ftl_nest_text.proofs.reading.laws.faults_are_of_nesting_schedules.Goals as goal

pub returns : goal.returns
returns c = record { memory = never_memory }
