use Rattle.ftl_order.proofs.automatic.Found.{one_of_both}
use Rattle.ftl_order.proofs.automatic.Ones.{not_both, one_automatic, one_chain, one_left}
use Rattle.ftl_order.proofs.automatic.laws.exactly_one_automatic_schedule.Goals as goal

pub returns : goal.returns
returns c = record {
  chain = one_chain;
  schedule = one_automatic;
  left = one_left;
  not_both = not_both;
  one_of_both = one_of_both;
}
