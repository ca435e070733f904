use Rattle.std.proofs.Common.{arith}
use Rattle.ftl_replay.proofs.example_works.LadderLaws.{ladder_is_lawful}
use Rattle.ftl_replay.proofs.example_works.ladder.LadderWork.items.Goals as goal

pub returns-clause-lawful : goal.returns-clause-lawful
returns-clause-lawful c = ladder_is_lawful c.args.self.now.items (omega arith)
