use Rattle.ftl_order.proofs.automatic.Joined.{joined_fit}
use Rattle.ftl_order.proofs.automatic.Largest.{list_exists}
use Rattle.ftl_order.proofs.automatic.Ones.{one_list}
use Rattle.ftl_order.proofs.automatic.laws.lists_that_fit.Goals as goal

pub returns : goal.returns
returns c = record { joined = joined_fit; one = one_list; exists = λ g kind done law. list_exists g law kind done }
