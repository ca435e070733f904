use Rattle.std.proofs.Common.{rules, arith}
use Rattle.ftl_lots.proofs.run.LotParts.{push_filled}
use Rattle.ftl_lots.proofs.run.lots.taken_parts.Goals as goal

pub loop-lot-preserved : goal.loop-lot-preserved
loop-lot-preserved g c =
    let inv = c.loop-lot.invariant in
    let next = push_filled c.args.lots.now.1 c.loop-lot.parts.items c.filled.result c.loop-lot.lot
    (omega (arith, inv.count)) c.filled.ensures.filled inv.filled in
    search rules
