use Rattle.ftl_replay.proofs.example_works.StarLaws.{star_is_lawful}
use Rattle.ftl_replay.proofs.example_works.star.StarWork.items.Goals as goal

pub returns-clause-lawful : goal.returns-clause-lawful
returns-clause-lawful c = star_is_lawful
