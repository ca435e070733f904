use Rattle.std.proofs.Common.{ℕ, ◌-◌, ◌<◌, ◌≤◌}
use Rattle.ftl_lots.specs.filling.Blocks.{IsPassedOver}
use Rattle.ftl_lots.proofs.filling.blocks.ItemBlocks.next.Given as goal

abbrev pub invariant-loop-next : goal.invariant-loop-next
invariant-loop-next l = record {
  later : l.item ≤ l.next;
  within : l.item ≤ l.end → l.next ≤ l.end;
  passed : (i : ℕ) → l.item ≤ i → i < l.next → IsPassedOver l.self i;
}

abbrev pub decreases-loop-next : goal.decreases-loop-next
decreases-loop-next l = l.end - l.next
