use Rattle.std.proofs.Common.{◌≡◌}
use Rattle.ftl_pool.specs.Flags.{AreDownBelow}
use Rattle.ftl_pool.proofs.flag_row.FlagRow.lower.Given as goal

abbrev pub invariant-loop-at : goal.invariant-loop-at
invariant-loop-at l = record {
  same : l.self-inside.flags.items ≡ l.initial.self-inside.flags.items;
  down : AreDownBelow l.self-inside.flags.items l.at;
}
