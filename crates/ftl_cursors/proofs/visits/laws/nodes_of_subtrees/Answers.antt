use Rattle.ftl_cursors.proofs.visits.RangeLemmas.{subtree_nodes}
use Rattle.ftl_cursors.proofs.visits.laws.nodes_of_subtrees.Goals as goal

pub returns : goal.returns
returns c = record { nodes = λ t p there. subtree_nodes t p there }
