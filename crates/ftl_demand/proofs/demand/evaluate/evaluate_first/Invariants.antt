use Rattle.std.proofs.Common.{◌≡◌, length}
use Rattle.ftl_demand.proofs.demand.Stacks.{IsStack, left_to_do}
use Rattle.ftl_demand.proofs.demand.evaluate.evaluate_first.Given as goal

abbrev pub invariant-loop-next : goal.invariant-loop-next
invariant-loop-next l = record {
  stack : IsStack l.site.tree.now l.fn.wanted l.initial.words l.words l.waiting.items;
  room : l.buffers.stack.room ≡ l.fn.buffers.stack.room;
}

abbrev pub decreases-loop-next : goal.decreases-loop-next
decreases-loop-next l = left_to_do l.words (length l.waiting.items)
