use Rattle.std.proofs.Common.{◌≡◌, ◌≢◌, ℕ, ◌+◌, ◌<◌, ◌≤◌, [], get_or}
use Rattle.ftl_deps.specs.reads.Meant.{meant}
use Rattle.ftl_step_value.specs.limits.reads.ReadTables.{class_in, instance_in}
use Rattle.ftl_model.specs.layout.Table.{instance_number}
use Rattle.ftl_model.specs.layout.Tree.{size}
use Rattle.ftl_order.specs.orders.Lawful.{OfClass}
use Rattle.ftl_demand.specs.demand.Words.{AreWordsSoFar}
use Rattle.ftl_demand.proofs.demand.solve.evaluate_all.Given as goal

-- the words of the last nodes are there, of as many as were gone through
abbrev pub invariant-loop-behind : goal.invariant-loop-behind
invariant-loop-behind l = record {
  words : AreWordsSoFar (meant l.site.tree.now.checked) l.site.tree.now.tree l.words;
  there : (n a : ℕ) → n < size l.site.tree.now.tree → size l.site.tree.now.tree ≤ n + l.behind
      → OfClass (meant l.site.tree.now.checked) (class_in l.site.tree.now n) a
      → get_or l.words
      (instance_number (meant l.site.tree.now.checked) l.site.tree.now.tree (instance_in l.site.tree.now n a)) 0 ≢ 0;
  empty : l.waiting.items ≡ [];
  room : l.buffers.stack.room ≡ l.fn.buffers.stack.room;
}
