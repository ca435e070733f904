use Rattle.ftl_regions.proofs.pairs.AllPairs.{none_refused, pairs_ordered}
use Rattle.ftl_regions.proofs.pairs.laws.refused_pairs.Goals as goal

pub returns : goal.returns
returns c = record { exact = λ g at law. (pairs_ordered g at law, none_refused g at law) }
