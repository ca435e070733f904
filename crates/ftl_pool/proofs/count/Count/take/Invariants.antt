use Rattle.std.proofs.Common.{◌≡◌, ◌≤◌}
use Rattle.ftl_pool.specs.Count.{IsTallyOf}
use Rattle.ftl_pool.proofs.count.Count.take.Given as goal

abbrev pub invariant-loop : goal.invariant-loop
invariant-loop g l = record {
  can : (goal.iterator-loop g).can_next l.iterator';
  finite : (goal.iterator-loop g).is_finite l.iterator';
  made : IsTallyOf l.self l.tally;
  puts : l.tally.state.puts ≡ l.initial.tally.state.puts;
  takes : l.tally.state.takes ≡ l.initial.tally.state.takes;
  loads : l.initial.tally.state.loads ≤ l.tally.state.loads;
}
