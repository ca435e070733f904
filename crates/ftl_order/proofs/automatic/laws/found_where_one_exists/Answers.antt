use Rattle.ftl_order.proofs.automatic.Found.{found, none_where_stuck, ordered_where_found, stuck_where_none}
use Rattle.ftl_order.proofs.automatic.laws.found_where_one_exists.Goals as goal

pub returns : goal.returns
returns c = record {
  found = λ g law. (ordered_where_found g law, found g law);
  stuck = λ g law. (none_where_stuck g law, stuck_where_none g law);
}
