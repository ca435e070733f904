use Rattle.ftl_order.specs.orders.LegalOrder.{turn_of}
use Rattle.ftl_order.specs.orders.Schedule.{placing_of}
use Rattle.ftl_order.proofs.orders.LegalOrders.{placing_of-one_kind}
use Rattle.ftl_order.proofs.orders.Precedence.{precede_chain, precede_decided}
use Rattle.ftl_order.proofs.orders.legal_order.steps_that_must_precede.Goals as goal

pub returns : goal.returns
returns c = record {
  transitive = λ g t s i j k h m. precede_chain (placing_of s) (placing_of-one_kind s) (turn_of g i) (turn_of g j) (turn_of g k) h m;
  decided = λ g t s i j. precede_decided (placing_of s) (turn_of g i) (turn_of g j);
}
