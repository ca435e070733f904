use Rattle.lane_rows.proofs.Rows.{AreJoinedBelow}
use Rattle.lane_rows.proofs.matrix.close_over.Given as goal

abbrev pub invariant-loop-row : goal.invariant-loop-row
invariant-loop-row l = AreJoinedBelow l.initial.rows l.pivot l.through l.rows l.row
