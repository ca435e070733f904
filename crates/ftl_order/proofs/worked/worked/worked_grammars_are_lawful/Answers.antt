use Rattle.ftl_order.proofs.worked.ChainLaws.{chain_lawful}
use Rattle.ftl_order.proofs.worked.StackLawful.{stack_lawful}
use Rattle.ftl_order.proofs.worked.worked.worked_grammars_are_lawful.Goals as goal

pub returns : goal.returns
returns c = record { stack = stack_lawful; chain = chain_lawful }
