use Rattle.std.proofs.Common.{arith}
use Rattle.lane_rows.proofs.Walks.{closed_none, closed_more, closed_all}
use Rattle.lane_rows.proofs.matrix.close_rows.Goals as goal

pub loop-pivot-init : goal.loop-pivot-init
loop-pivot-init c = closed_none c.args.rows.now

pub loop-pivot-preserved : goal.loop-pivot-preserved
loop-pivot-preserved c =
    closed_more c.args.rows.now c.loop-pivot.rows c.close_over.new.rows c.loop-pivot.pivot c.loop-pivot.invariant
    c.close_over.ensures.over c.close_over.ensures.size

pub returns-clause-closed : goal.returns-clause-closed
returns-clause-closed c =
    closed_all c.args.rows.now c.loop-pivot.rows c.loop-pivot.pivot (omega arith) c.loop-pivot.invariant
