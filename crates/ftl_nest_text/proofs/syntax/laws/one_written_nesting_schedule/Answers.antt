use Rattle.ftl_nest_text.proofs.syntax.NestSchedules.{one_schedule}
use Rattle.ftl_nest_text.proofs.syntax.laws.one_written_nesting_schedule.Goals as goal

pub returns : goal.returns
returns c = record { same = one_schedule }
