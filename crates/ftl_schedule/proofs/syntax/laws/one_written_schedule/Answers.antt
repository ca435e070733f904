use Rattle.ftl_schedule.proofs.syntax.Schedules.{one_written_schedule}
use Rattle.ftl_schedule.proofs.syntax.laws.one_written_schedule.Goals as goal

pub returns : goal.returns
returns c = record { same = one_written_schedule }
