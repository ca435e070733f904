use Rattle.ftl_edits.proofs.meaning.EachInTurn.{AreFound}
use Rattle.ftl_edits.proofs.meaning.find.found_edits.Given as goal

abbrev pub invariant-loop-place : goal.invariant-loop-place
invariant-loop-place l = AreFound l.tree l.written l.place l.found
