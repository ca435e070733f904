use Rattle.std.proofs.Common.{refl}
use Rattle.ftl_example.proofs.orders.laws.worked_orders.Goals as goal

pub returns : goal.returns
returns c = record { nested = refl }
