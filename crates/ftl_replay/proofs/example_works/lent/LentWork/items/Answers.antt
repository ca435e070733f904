use Rattle.ftl_replay.proofs.example_works.LentLaws.{lent_is_lawful}
use Rattle.ftl_replay.proofs.example_works.lent.LentWork.items.Goals as goal

pub returns-clause-lawful : goal.returns-clause-lawful
returns-clause-lawful c = lent_is_lawful c.args.self.now.numbers.now
