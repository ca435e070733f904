use Rattle.ftl_order.proofs.dependencies.Writers.{first_is_first, none_where_none}
use Rattle.ftl_order.proofs.dependencies.laws.first_writers.Goals as goal

pub returns : goal.returns
returns c = record {
  first = λ g w r law rule in_it. first_is_first g law w r rule in_it;
  none = λ g w r law rule in_it. none_where_none g law w r rule in_it;
}
