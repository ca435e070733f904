use Rattle.ftl_example.proofs.nests.pairs.NestFaultPairs.{one_fault_pair}
use Rattle.ftl_example.proofs.nests.pairs.NestPairs.{pair_of_fault}
use Rattle.ftl_example.proofs.nests.pairs.laws.first_nest_pairs.Goals as goal

pub returns : goal.returns
returns c = record {
  pairs = λ g at reader writer law e. pair_of_fault g at law reader writer e;
  one = λ g s x y law p q. one_fault_pair g s x y law p q;
}
