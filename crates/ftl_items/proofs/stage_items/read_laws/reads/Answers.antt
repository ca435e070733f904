use Rattle.ftl_order.specs.orders.Schedule.{pass_at}
use Rattle.ftl_items.specs.stage_items.Visits.{visit}
use Rattle.ftl_items.proofs.stage_items.Ahead.{ahead_stands}
use Rattle.ftl_items.proofs.stage_items.ByKey.{key_ahead}
use Rattle.ftl_items.proofs.stage_items.Readable.{readable}
use Rattle.ftl_items.proofs.stage_items.read_laws.reads.Goals as goal

pub returns : goal.returns
returns c = record {
  by_key = λ g s t law ordered fits grain stage m p i j there in_i in_j first.
      ahead_stands (visit g t (pass_at s stage m).attributes p) i j
      (key_ahead g law t fits s ordered.once stage m p i j there in_i in_j first);
  readable = λ g s t law ordered fits grain stage. readable g s t law ordered fits grain stage;
}
