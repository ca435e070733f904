use Rattle.std.proofs.Common.{◌≡◌, []}
use Rattle.ftl_deps.specs.reads.Meant.{meant}
use Rattle.ftl_demand.specs.demand.Words.{AreWordsSoFar}
use Rattle.ftl_demand.proofs.demand.solve.evaluate_downwards.Given as goal

-- no step waits between nodes
abbrev pub invariant-loop-node : goal.invariant-loop-node
invariant-loop-node l = record {
  words : AreWordsSoFar (meant l.site.tree.now.checked) l.site.tree.now.tree l.words;
  empty : l.waiting.items ≡ [];
  room : l.buffers.stack.room ≡ l.fn.buffers.stack.room;
}
