use Rattle.ftl_lots.proofs.work.LooseLaws.{loose_first}
use Rattle.ftl_lots.proofs.run.lots.fill_lots.Goals as goal

pub open-requires-clause-first : goal.open-requires-clause-first
open-requires-clause-first g c κs within =
    loose_first (g.F.FillLots.wanted c.args.filler.now) c.new.result.items c.new.ensures.items
