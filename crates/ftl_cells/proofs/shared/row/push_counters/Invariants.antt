use Rattle.std.proofs.Common.{◌≡◌, ◌++◌, map}
use Rattle.std.specs.List.{range_with_len}
use Rattle.ftl_cells.specs.shared.Work.{pred_total}
use Rattle.ftl_cells.proofs.shared.row.push_counters.Given as goal

abbrev pub invariant-loop-item : goal.invariant-loop-item
invariant-loop-item g l = l.row.items ≡ l.initial.row.items ++ map (pred_total (g.W.Meant.meaning l.work))
    (range_with_len 0 l.item)
