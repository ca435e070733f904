use Rattle.ftl_order.proofs.automatic.Ordered.{automatic_ordered}
use Rattle.ftl_order.proofs.automatic.laws.automatic_schedule_is_ordered.Goals as goal

pub returns : goal.returns
returns c = record { ordered = automatic_ordered }
