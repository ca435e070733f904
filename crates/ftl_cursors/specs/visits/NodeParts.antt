-- The part of a range of nodes that lies in one block.
use Rattle.std.specs.Prelude.{◌≡◌, ℕ, ◌+◌, ◌<◌, ◌≤◌, ◌++◌}
use Rattle.ftl_cursors.specs.classes.ClassSets.{block_of}
use Rattle.ftl_cursors.specs.visits.NodeRanges.{nodes_in}
use Rattle.ftl_cursors.specs.declared.visits.nodes.NodeOrder.{NodeOrder}
use Rattle.ftl_cursors.specs.declared.visits.nodes.NodeRange.{NodeRange}

-- the nodes are of one block
abbrev pub IsInBlock : NodeRange → Type 0
IsInBlock part = (n : ℕ) → part.first ≤ n → n < part.first + part.count → block_of n ≡ block_of part.first

-- the part has nodes of one block, and comes first in a range, of which the other one has the rest
pub record IsFirstPart (order : NodeOrder) (all rest part : NodeRange) : Type 0 where
  pub is :
      nodes_in order all.first all.count ≡ nodes_in order part.first part.count ++ nodes_in order rest.first rest.count
  pub some : 0 < part.count
  pub block : IsInBlock part
  pub within : part.first + part.count ≤ all.first + all.count
  pub rest_within : rest.first + rest.count ≤ all.first + all.count
  pub less : rest.count < all.count
