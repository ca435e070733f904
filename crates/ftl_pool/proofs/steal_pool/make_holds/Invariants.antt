use Rattle.std.proofs.Common.{◌≡◌, ◌+◌, vec_len, None}
use Rattle.std.specs.List.{All}
use Rattle.ftl_pool.specs.Count.{IsTallyOf}
use Rattle.ftl_pool.specs.Pool.{IsFreshStealHoldOf, StealsFromNone}
use Rattle.ftl_pool.proofs.steal_pool.make_holds.Given as goal

abbrev pub invariant-loop : goal.invariant-loop
invariant-loop l = record {
  made : IsTallyOf l.count l.tally;
  puts : l.tally.state.puts ≡ 0;
  takes : l.tally.state.takes ≡ 0;
  loads : l.tally.state.loads ≡ 0;
  last : l.tally.state.last ≡ None;
  spare : l.tally.state.spare + l.counter ≡ 64;
  holds : vec_len l.holds + 1 ≡ l.counter;
  fresh : All (IsFreshStealHoldOf l.count) l.holds.items;
  others : All StealsFromNone l.holds.items;
}
