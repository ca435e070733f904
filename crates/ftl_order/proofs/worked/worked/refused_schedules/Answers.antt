use Rattle.ftl_order.proofs.worked.WorkedPairs.{chain_ordered, chain_unordered, heights_unordered, places_first_unordered, sheet_ordered, slanted_unordered, width_stands_twice, y_is_missing}
use Rattle.ftl_order.proofs.worked.worked.refused_schedules.Goals as goal

pub returns : goal.returns
returns c = record {
  heights_topdown = heights_unordered;
  sheet_is_ordered = sheet_ordered;
  later_stage = places_first_unordered;
  other_pass = slanted_unordered;
  topdown = chain_unordered;
  inorder = chain_ordered;
  twice = width_stands_twice;
  missing = y_is_missing;
}
