use Rattle.std.proofs.Common.{◌≡◌}
use Rattle.ftl_pool.proofs.deque.steal_once.Given as goal

abbrev pub invariant-loop-at : goal.invariant-loop-at
invariant-loop-at l = record { same : l.thieves.items ≡ l.initial.thieves.items }
