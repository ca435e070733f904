use Rattle.ftl_cells.specs.shared.Work.{pred_total}
use Rattle.ftl_cells.proofs.shared.Opening.{counters_more}
use Rattle.ftl_cells.proofs.shared.row.push_counters.Goals as goal

pub loop-item-preserved : goal.loop-item-preserved
loop-item-preserved g c =
    counters_more (pred_total (g.W.Meant.meaning c.args.work.now)) c.args.row.now.items c.loop-item.row.items
    c.push.new.self.items c.loop-item.item c.pred_count.result
    c.pred_count.ensures.count c.loop-item.invariant c.in_ok-push.ensures.items
