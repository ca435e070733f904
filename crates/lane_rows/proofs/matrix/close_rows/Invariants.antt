use Rattle.lane_rows.proofs.Walks.{IsClosedBelow}
use Rattle.lane_rows.proofs.matrix.close_rows.Given as goal

abbrev pub invariant-loop-pivot : goal.invariant-loop-pivot
invariant-loop-pivot l = IsClosedBelow l.initial.rows l.rows l.pivot
