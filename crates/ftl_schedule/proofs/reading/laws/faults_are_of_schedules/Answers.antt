use Rattle.ftl_schedule.proofs.reading.AnswerLemmas.{never_memory}
use Rattle.ftl_schedule.proofs.reading.laws.faults_are_of_schedules.Goals as goal

pub returns : goal.returns
returns c = record { memory = never_memory }
