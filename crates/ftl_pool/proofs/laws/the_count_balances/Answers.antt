use Rattle.ftl_pool.proofs.Balances.{balances}
use Rattle.ftl_pool.proofs.laws.the_count_balances.Goals as goal

pub returns : goal.returns
returns c = record { balanced = balances }
