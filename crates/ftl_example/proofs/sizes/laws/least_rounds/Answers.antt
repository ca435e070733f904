use Rattle.ftl_example.proofs.sizes.Capped.{counted_up_to}
use Rattle.ftl_example.proofs.sizes.LeastSize.{rounds_give_least}
use Rattle.ftl_example.proofs.sizes.laws.least_rounds.Goals as goal

pub returns : goal.returns
returns c = record { least = λ g. rounds_give_least g; counted = λ g most k i. counted_up_to g most k i }
