use Rattle.std.proofs.Common.{◌≡◌, ◌≢◌, ℕ, ◌<◌, [], get_or}
use Rattle.ftl_deps.specs.reads.Meant.{meant}
use Rattle.ftl_step_value.specs.limits.reads.ReadTables.{instance_in}
use Rattle.ftl_model.specs.layout.Table.{instance_number}
use Rattle.ftl_demand.specs.demand.Words.{AreWordsSoFar, StaysWhereThere}
use Rattle.ftl_demand.proofs.demand.solve.evaluate_node.Given as goal

-- the words of the attributes before this one are there
abbrev pub invariant-loop-attr : goal.invariant-loop-attr
invariant-loop-attr l = record {
  words : AreWordsSoFar (meant l.site.tree.now.checked) l.site.tree.now.tree l.words;
  stays : StaysWhereThere l.initial.words l.words;
  there : (k : ℕ) → k < l.attr-index
      → get_or l.words
      (instance_number (meant l.site.tree.now.checked) l.site.tree.now.tree
      (instance_in l.site.tree.now l.node (get_or l.attr-items k 0))) 0 ≢ 0;
  empty : l.waiting.items ≡ [];
  room : l.buffers.stack.room ≡ l.initial.buffers.stack.room;
}
