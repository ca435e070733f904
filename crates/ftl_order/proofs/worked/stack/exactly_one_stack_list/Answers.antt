use Rattle.ftl_order.proofs.worked.StackSchedules.{one_stack_list}
use Rattle.ftl_order.proofs.worked.stack.exactly_one_stack_list.Goals as goal

pub returns : goal.returns
returns c = record { one_list = one_stack_list }
