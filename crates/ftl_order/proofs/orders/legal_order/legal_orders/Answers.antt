use Rattle.ftl_order.proofs.orders.Scheduled.{order_under, writer_before_under}
use Rattle.ftl_order.proofs.orders.legal_order.legal_orders.Goals as goal

pub returns : goal.returns
returns c = record {
  exists = λ g s t law ordered fits. order_under g s t law ordered.pairs fits;
  writers_before = λ g s t law ordered fits. writer_before_under g s t law ordered.pairs fits;
}
