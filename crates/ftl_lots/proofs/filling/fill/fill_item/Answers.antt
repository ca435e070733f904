use Rattle.std.proofs.Common.{rules}
use Rattle.ftl_lots.proofs.filling.Fills.{goes_on}
use Rattle.ftl_lots.proofs.filling.fill.fill_item.Goals as goal

pub returns-clause-filled : goal.returns-clause-filled
returns-clause-filled g c =
    let next = goes_on (g.W.Meant.meaning c.args.work.now) c.args.phases.now c.args.phase (g.S.WordRow.words c.run_one.new.filler.words.now)
    c.args.first c.args.item in
    search rules
