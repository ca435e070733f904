use Rattle.std.proofs.Common.{length}
use Rattle.ftl_order.proofs.orders.Kids.{root_there}
use Rattle.ftl_items.specs.stage_items.Cut.{is_small}
use Rattle.ftl_items.specs.stage_items.Items.{cut_of, pass_in}
use Rattle.ftl_items.proofs.numbers.Begins.{begins-size}
use Rattle.ftl_items.proofs.numbers.NextNumbers.{nexts_numbered, predecessors_numbered}
use Rattle.ftl_items.proofs.numbers.Places.{pass_stands, pass_within, placed_in}
use Rattle.ftl_items.proofs.numbers.Ranges.{numbers-nodes}
use Rattle.ftl_items.proofs.numbers.number_laws.item_numbers.Goals as goal

pub returns : goal.returns
returns c = record {
  begins = λ t grain child kid p h. begins-size t grain child kid p h;
  ranges = λ t grain p h. numbers-nodes t p (is_small t grain);
  passes = λ g passes t fits grain m j known below. (
    pass_within (length passes) (cut_of passes t grain) t (root_there g t fits) m j known below,
    pass_stands (length passes) (cut_of passes t grain) t (root_there g t fits) m j known below,
  );
  places = λ g passes t fits grain m p known h.
      let placed = placed_in (is_small t grain) t (root_there g t fits) (pass_in passes m).kind p h in
      (placed.within, placed.is);
  nexts = λ g passes t fits grain i below. nexts_numbered g t fits (length passes) (cut_of passes t grain) i below;
  predecessors = λ g passes t fits grain i below. predecessors_numbered g t fits (length passes) (cut_of passes t grain) i below;
}
