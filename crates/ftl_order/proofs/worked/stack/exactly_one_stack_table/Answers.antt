use Rattle.ftl_order.proofs.worked.StackSchedules.{one_stack_table}
use Rattle.ftl_order.proofs.worked.stack.exactly_one_stack_table.Goals as goal

pub returns : goal.returns
returns c = record { one_table = one_stack_table }
