use Rattle.ftl_order.proofs.orders.Scheduled.{one_list_under, one_table_under}
use Rattle.ftl_order.proofs.orders.legal_order.exactly_one_table.Goals as goal

pub returns : goal.returns
returns c = record {
  one_table = λ g s t law ordered fits. one_table_under g s t law ordered.pairs fits;
  one_list = λ g s t law ordered fits. one_list_under g s t law ordered.pairs fits;
}
