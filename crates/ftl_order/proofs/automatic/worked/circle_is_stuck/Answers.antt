use Rattle.ftl_order.proofs.automatic.WorkedCircle.{circle_stuck}
use Rattle.ftl_order.proofs.automatic.worked.circle_is_stuck.Goals as goal

pub returns : goal.returns
returns c = record { stuck = circle_stuck }
