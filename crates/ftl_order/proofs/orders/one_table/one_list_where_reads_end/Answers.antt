use Rattle.ftl_order.proofs.orders.OneList.{one_list_by}
use Rattle.ftl_order.proofs.orders.TreeEquations.{one_table_by}
use Rattle.ftl_order.proofs.orders.one_table.one_list_where_reads_end.Goals as goal

pub returns : goal.returns
returns c = record { one_list = λ g t law fits number ends. one_list_by g law t fits (one_table_by g law t fits number ends) }
