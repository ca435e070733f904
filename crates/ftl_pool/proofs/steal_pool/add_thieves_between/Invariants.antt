use Rattle.std.proofs.Common.{◌≡◌, vec_len, slice_range}
use Rattle.std.specs.List.{All}
use Rattle.ftl_pool.specs.Pool.{IsFreshStealHoldOf, own_deques, stolen_deques}
use Rattle.ftl_pool.proofs.Thieves.{gains}
use Rattle.ftl_pool.proofs.steal_pool.add_thieves_between.Given as goal

abbrev pub invariant-loop-other : goal.invariant-loop-other
invariant-loop-other l = record {
  same : vec_len l.holds ≡ vec_len l.initial.holds;
  fresh : All (IsFreshStealHoldOf l.count) l.holds.items;
  own : own_deques l.holds.items ≡ own_deques l.initial.holds.items;
  others : stolen_deques l.holds.items ≡ gains (stolen_deques l.initial.holds.items) l.worker
      (slice_range (own_deques l.initial.holds.items) l.first l.other);
}
