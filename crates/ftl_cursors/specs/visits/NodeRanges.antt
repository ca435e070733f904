-- The nodes of a range, in the order in which they are visited.
use Rattle.std.specs.Prelude.{◌≡◌, ℕ, ◌+◌, ◌<◌, ◌≤◌, List, ◌∷◌, reverse}
use Rattle.std.specs.List.{range_with_len}
use Rattle.ftl_cursors.specs.declared.visits.nodes.NodeOrder.{NodeOrder}
use Rattle.ftl_cursors.specs.declared.visits.nodes.NodeOrder.TheVariants.{Preorder, Reverse}
use Rattle.ftl_cursors.specs.declared.visits.nodes.NodeRange.{NodeRange}

-- so many nodes from the first on, in preorder or the other way round
abbrev pub nodes_in : NodeOrder → (first count : ℕ) → List ℕ
nodes_in Preorder first count = range_with_len first count
nodes_in Reverse first count = reverse (range_with_len first count)

-- the node comes first in a range, and the other range has those that come after it
pub record IsFirstNode (order : NodeOrder) (all rest : NodeRange) (node : ℕ) : Type 0 where
  pub is : nodes_in order all.first all.count ≡ node ∷ nodes_in order rest.first rest.count
  pub known : node < all.first + all.count
  pub within : rest.first + rest.count ≤ all.first + all.count
