use Rattle.std.proofs.Common.{arith}
use Rattle.ftl_replay.proofs.example_works.ChainLaws.{chain_is_lawful}
use Rattle.ftl_replay.proofs.example_works.chain.ChainWork.items.Goals as goal

pub returns-clause-lawful : goal.returns-clause-lawful
returns-clause-lawful c = chain_is_lawful c.args.self.now.items (omega arith)
