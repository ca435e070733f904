use Rattle.ftl_cursors.specs.visits.Places.{ops_left}
use Rattle.ftl_cursors.proofs.visits.PlaceLemmas.{IsAsFar}
use Rattle.ftl_cursors.proofs.visits.place.next_turns.Given as goal

abbrev pub invariant-search : goal.invariant-search
invariant-search l = IsAsFar l.tables l.initial.at l.at

abbrev pub decreases-search : goal.decreases-search
decreases-search l = ops_left l.tables l.at
