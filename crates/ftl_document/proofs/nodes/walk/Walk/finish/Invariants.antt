use Rattle.std.proofs.Common.{◌+◌, ◌-◌, ◌*◌, length}
use Rattle.ftl_document.specs.syntax.Written.{WrittenNode}
use Rattle.ftl_document.specs.nodes.Walk.{CanWalk, IsWalked}
use Rattle.ftl_document.proofs.nodes.walk.Walk.finish.Given as goal

abbrev pub invariant-loop-region : goal.invariant-loop-region
invariant-loop-region l = record {
  walked : CanWalk l.self l.progress;
  same : (node : WrittenNode) → IsWalked l.self.checked.now.grammar node l.self.rows.now l.fn.progress
      → IsWalked l.self.checked.now.grammar node l.self.rows.now l.progress;
}

abbrev pub decreases-loop-region : goal.decreases-loop-region
decreases-loop-region l = 2 * (length l.self.rows.now - l.progress.at) + length l.progress.stack
