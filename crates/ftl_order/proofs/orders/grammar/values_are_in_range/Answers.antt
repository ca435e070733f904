use Rattle.ftl_order.proofs.orders.TableRange.{value_in_range}
use Rattle.ftl_order.proofs.orders.grammar.values_are_in_range.Goals as goal

pub returns : goal.returns
returns c = record {
  in_range = λ g law t fits number ends s solves i valid. value_in_range g law t fits s solves (number i) i valid (ends i valid);
}
