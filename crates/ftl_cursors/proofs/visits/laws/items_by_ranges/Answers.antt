use Rattle.ftl_cursors.proofs.visits.ItemLemmas.{bottomup_targets, nodes_within, topdown_targets}
use Rattle.ftl_items.specs.stage_items.Cut.{is_small}
use Rattle.ftl_cursors.proofs.visits.laws.items_by_ranges.Goals as goal

pub returns : goal.returns
returns c = record {
  nodes = λ g t law fits grain x there. nodes_within g t fits (is_small t grain) x.first there;
  topdown = λ g t law fits grain x there s stage attributes.
      topdown_targets g t fits (is_small t grain) x.first there law attributes;
  bottomup = λ g t law fits grain x there s stage attributes.
      bottomup_targets g t fits (is_small t grain) x.first there law attributes;
}
