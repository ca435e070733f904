use Rattle.ftl_order.proofs.automatic.WorkedSmall.{chain_automatic, free_automatic}
use Rattle.ftl_order.proofs.automatic.WorkedStack.{stack_automatic}
use Rattle.ftl_order.proofs.automatic.worked.automatic_schedules_of_grammars.Goals as goal

pub returns : goal.returns
returns c = record { stack = stack_automatic; inorder = chain_automatic; tie = free_automatic }
