use Rattle.ftl_cursors.specs.sequence.Places.{moves_at}
use Rattle.ftl_cursors.proofs.sequence.CursorMoves.{IsAsFar}
use Rattle.ftl_cursors.proofs.sequence.place.next_step.Given as goal

abbrev pub invariant-search : goal.invariant-search
invariant-search l = IsAsFar l.tables l.initial.at l.at

abbrev pub decreases-search : goal.decreases-search
decreases-search l = moves_at l.tables l.at
