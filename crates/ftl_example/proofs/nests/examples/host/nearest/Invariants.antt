use Rattle.std.proofs.Common.{◌≡◌, ◌<◌}
use Rattle.ftl_model.specs.layout.Path.{node_at}
use Rattle.ftl_model.specs.layout.Tree.{size}
use Rattle.ftl_nests.specs.Hosted.{nearest}
use Rattle.ftl_example.proofs.nests.examples.host.nearest.Given as goal

abbrev pub invariant-loop-host : goal.invariant-loop-host
invariant-loop-host l =
    (l.host < size l.tree.tree)
    × (nearest l.tree.tree l.class (node_at l.tree.tree l.host) ≡ nearest l.tree.tree l.class (node_at l.tree.tree l.node))

abbrev pub decreases-loop-host : goal.decreases-loop-host
decreases-loop-host l = l.host
