use Rattle.std.proofs.Common.{rules}
use Rattle.ftl_steal.proofs.Filling.{goes_on}
use Rattle.ftl_steal.proofs.alone.run_alone.Goals as goal

-- once each step of the item is made, the next item is at its first
pub loop-item-preserved : goal.loop-item-preserved
loop-item-preserved g c =
    let next = goes_on (g.W.Meant.meaning c.args.work.now) c.run_item.new.filler.words.items c.loop-item.item in
    search rules
