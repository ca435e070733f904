use Rattle.std.proofs.Common.{◌<◌, ◌≤◌, ◌-◌, length}
use Rattle.ftl_cursors.specs.items.StageItems.{start_in}
use Rattle.ftl_cursors.proofs.items.view.StageItems.place.Given as goal

abbrev pub invariant-loop-high : goal.invariant-loop-high
invariant-loop-high l = record {
  order : l.low < l.high;
  known : l.high ≤ length l.self.passes.now;
  from : start_in l.self l.low ≤ l.item;
  to : l.item < start_in l.self l.high;
}

abbrev pub decreases-loop-high : goal.decreases-loop-high
decreases-loop-high l = l.high - l.low
