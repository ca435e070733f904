use Rattle.ftl_nest_text.proofs.reading.NestAnswerLemmas.{one_schedule, some_schedule}
use Rattle.ftl_nest_text.proofs.reading.laws.one_nesting_schedule.Goals as goal

pub returns-clause-some : goal.returns-clause-some
returns-clause-some c = some_schedule

pub returns-clause-any_two : goal.returns-clause-any_two
returns-clause-any_two c = one_schedule
