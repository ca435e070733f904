use Rattle.ftl_replay.proofs.example_works.EightLaws.{eight_is_lawful}
use Rattle.ftl_replay.proofs.example_works.eight.EightAloneWork.items.Goals as goal

pub returns-clause-lawful : goal.returns-clause-lawful
returns-clause-lawful c = eight_is_lawful
