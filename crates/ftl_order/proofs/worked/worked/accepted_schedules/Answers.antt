use Rattle.ftl_order.proofs.worked.ChainLaws.{chain_inorder_ordered}
use Rattle.ftl_order.proofs.worked.StackSchedules.{places_beside_ordered, sizes_then_places_ordered}
use Rattle.ftl_order.proofs.worked.worked.accepted_schedules.Goals as goal

pub returns : goal.returns
returns c = record { sizes_then_places = sizes_then_places_ordered; places_beside = places_beside_ordered; inorder = chain_inorder_ordered }
