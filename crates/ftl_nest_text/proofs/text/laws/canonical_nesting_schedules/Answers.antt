use Rattle.ftl_nest_text.proofs.text.NestSpelled.{canonical}
use Rattle.ftl_nest_text.proofs.text.laws.canonical_nesting_schedules.Goals as goal

pub returns : goal.returns
returns c = record { spells = canonical }
