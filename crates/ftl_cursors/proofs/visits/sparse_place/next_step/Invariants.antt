use Rattle.std.proofs.Common.{◌≡◌}
use Rattle.ftl_cursors.specs.visits.SparsePlaces.{AreWithin, sparse_left}
use Rattle.ftl_cursors.proofs.visits.sparse_place.next_step.Given as goal

abbrev pub invariant-search : goal.invariant-search
invariant-search l = record {
  nodes : AreWithin l.tables l.nodes;
  left : sparse_left l.tables l.nodes l.steps ≡ sparse_left l.tables l.initial.nodes l.initial.steps;
}

abbrev pub decreases-search : goal.decreases-search
decreases-search l = l.nodes.count
