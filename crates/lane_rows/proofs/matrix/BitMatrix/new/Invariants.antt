use Rattle.lane_rows.proofs.Rows.{IsBare}
use Rattle.lane_rows.proofs.matrix.BitMatrix.new.Given as goal

abbrev pub invariant-loop : goal.invariant-loop
invariant-loop l = IsBare l.rows.items l.counter
