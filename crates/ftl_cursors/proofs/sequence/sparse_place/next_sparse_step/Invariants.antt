use Rattle.ftl_cursors.specs.sequence.Places.{moves_at}
use Rattle.ftl_cursors.specs.sequence.SparsePlaces.{AreKnown}
use Rattle.ftl_cursors.proofs.sequence.CursorMoves.{IsAsFar}
use Rattle.ftl_cursors.proofs.sequence.sparse_place.next_sparse_step.Given as goal

abbrev pub invariant-search : goal.invariant-search
invariant-search l = record {
  nodes : AreKnown l.tables l.nodes;
  place : IsAsFar l.tables.all l.initial.at l.at;
}

abbrev pub decreases-search : goal.decreases-search
decreases-search l = moves_at l.tables.all l.at
