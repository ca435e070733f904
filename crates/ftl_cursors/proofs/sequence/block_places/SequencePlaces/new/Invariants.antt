use Rattle.ftl_cursors.proofs.sequence.PlaceTable.{AreAdded}
use Rattle.ftl_cursors.proofs.sequence.block_places.SequencePlaces.new.Given as goal

abbrev pub invariant-loop-class : goal.invariant-loop-class
invariant-loop-class l = AreAdded l.visits l.class l.starts.items l.places.items
