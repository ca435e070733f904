use Rattle.ftl_order.proofs.worked.StackPairs.{listed_pairs, pairs_listed}
use Rattle.ftl_order.proofs.worked.worked.the_pairs_of_stack.Goals as goal

pub returns : goal.returns
returns c = record { pairs = λ pair. (pairs_listed pair, listed_pairs pair) }
