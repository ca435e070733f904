use Rattle.std.proofs.Common.{arith}
use Rattle.ftl_edge.proofs.Reading.{Consumes-take_more}
use Rattle.ftl_edge.proofs.source.read_all.Goals as goal

pub loop-filled-preserved : goal.loop-filled-preserved
loop-filled-preserved g c =
    let before = c.loop-filled.invariant in
    let turn = c.in_ok-count.ensures in
    record {
      held = turn.fits;
      at_most = turn.at_most;
      consumed = Consumes-take_more _ _ _ _ _ c.loop-filled.filled c.in_ok-count.count turn.front before.consumed
          turn.ok;
      counted = omega (arith, turn.taken, before.counted);
      no_more = omega (arith, turn.taken, before.no_more);
      kept = omega (arith, turn.kept, before.kept);
      endless = λ never. turn.endless (before.endless never);
      turns = omega (arith, turn.called, before.turns, c.if-count-eq0.false);
    }
