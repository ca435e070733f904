use Rattle.std.proofs.Common.{◌≡◌, vec_len}
use Rattle.std.specs.List.{All}
use Rattle.ftl_pool.specs.Pool.{IsFreshStealHoldOf, own_deques, stolen_deques}
use Rattle.ftl_pool.proofs.Thieves.{AreGiven}
use Rattle.ftl_pool.proofs.steal_pool.add_thieves.Given as goal

abbrev pub invariant-loop-worker : goal.invariant-loop-worker
invariant-loop-worker l = record {
  workers : vec_len l.holds ≡ l.workers;
  same : vec_len l.holds ≡ vec_len l.initial.holds;
  fresh : All (IsFreshStealHoldOf l.count) l.holds.items;
  own : own_deques l.holds.items ≡ own_deques l.initial.holds.items;
  given : AreGiven l.worker (own_deques l.initial.holds.items) (stolen_deques l.holds.items);
}
