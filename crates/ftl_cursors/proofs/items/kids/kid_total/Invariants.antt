use Rattle.std.proofs.Common.{◌≡◌}
use Rattle.ftl_model.specs.layout.Path.{node_at}
use Rattle.ftl_cursors.proofs.items.AllKids.{kids_before}
use Rattle.ftl_cursors.proofs.items.kids.kid_total.Given as goal

abbrev pub invariant-loop-child : goal.invariant-loop-child
invariant-loop-child l = l.total ≡ kids_before l.tree.tree (node_at l.tree.tree l.node) l.child
