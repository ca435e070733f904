use Rattle.std.proofs.Common.{length}
use Rattle.ftl_order.proofs.orders.Kids.{root_there}
use Rattle.ftl_items.specs.stage_items.Items.{cut_of, passes_of}
use Rattle.ftl_items.proofs.stage_items.Later.{next_later, predecessors_counted}
use Rattle.ftl_items.proofs.stage_items.later_laws.next_items.Goals as goal

pub returns : goal.returns
returns c = record {
  later = λ g s t law ordered fits grain stage i k.
      next_later (length (passes_of s stage)) (cut_of (passes_of s stage) t grain) t (root_there g t fits) i k;
  counted = λ g s t law ordered fits grain stage i.
      predecessors_counted (length (passes_of s stage)) (cut_of (passes_of s stage) t grain) t (root_there g t fits) i;
}
