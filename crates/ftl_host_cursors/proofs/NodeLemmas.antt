-- The node that comes first of those that are left, and the tree at a node.
use Rattle.std.proofs.Common.{◌≡◌, ℕ, ◌+◌, ◌-◌, ◌<◌, ◌≤◌, true, ◌∷◌, sym, subst, arith}
use Rattle.ftl_model.specs.layout.AttributeGrammar.{AttributeGrammar}
use Rattle.ftl_model.specs.layout.Path.{node_at, size_at}
use Rattle.ftl_model.specs.layout.Tree.{Forest, size}
use Rattle.ftl_model.specs.layout.TreeOf.{IsTreeOf}
use Rattle.ftl_tree.proofs.rows.Access.{has_at, number_at}
use Rattle.ftl_cursors.specs.declared.visits.nodes.NodeOrder.TheVariants.{Reverse}
use Rattle.ftl_cursors.specs.visits.NodeRanges.{nodes_in}
use Rattle.ftl_cursors.proofs.visits.ItemLemmas.{nodes_within}
use Rattle.ftl_cursors.proofs.visits.RangeLemmas.{range_last}
use Rattle.ftl_host_cursors.specs.HostPlaces.{IsFirstLeft}
use Rattle.ftl_host_cursors.specs.declared.nodes.NodesLeft.{NodesLeft}

-- where the last node comes first, those before it come after it
pub last_is_first : (nodes : NodesLeft) → nodes.order ≡ Reverse → 0 < nodes.count
    → IsFirstLeft nodes (record { order = nodes.order; first = nodes.first; count = nodes.count - 1 })
    (nodes.first + (nodes.count - 1))
last_is_first nodes is some = record {
  is =
      subst
      (λ o. nodes_in o nodes.first nodes.count
      ≡ (nodes.first + (nodes.count - 1)) ∷ nodes_in o nodes.first (nodes.count - 1)) (sym is)
      (range_last nodes.first nodes.count some);
  known = omega arith;
  within = omega arith;
}

-- the tree at a node lies within all nodes
pub tree_within : (g : AttributeGrammar) (t : Forest) → IsTreeOf g t → (n : ℕ) → n < size t
    → n + size_at t (node_at t n) ≤ size t
tree_within g t fits n known =
    let all = nodes_within g t fits (λ q. true) (node_at t n) (has_at g t n fits known) in
    let number = number_at g t n fits known in
    omega (arith, all, number)
