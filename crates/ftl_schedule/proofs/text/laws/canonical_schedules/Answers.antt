use Rattle.ftl_schedule.proofs.text.SpelledSchedule.{canonical}
use Rattle.ftl_schedule.proofs.text.laws.canonical_schedules.Goals as goal

pub returns : goal.returns
returns c = record { spells = canonical }
