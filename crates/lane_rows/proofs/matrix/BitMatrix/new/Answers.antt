use Rattle.lane_rows.proofs.Rows.{bare_none, bare_more}
use Rattle.lane_rows.proofs.matrix.BitMatrix.new.Goals as goal

pub loop-init : goal.loop-init
loop-init c = bare_none c.in_ok-rows.rows.items c.in_ok-rows.ensures.items

pub loop-preserved : goal.loop-preserved
loop-preserved c =
    bare_more c.loop.rows.items c.push.new.self.items c.loop.counter c.empty.result c.loop.invariant
    c.empty.ensures.none c.in_ok-push.ensures.items
