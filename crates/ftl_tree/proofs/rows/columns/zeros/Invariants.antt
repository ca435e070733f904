use Rattle.std.proofs.Common.{◌≡◌, replicate}
use Rattle.ftl_tree.proofs.rows.columns.zeros.Given as goal

-- so many so far
abbrev pub invariant-loop : goal.invariant-loop
invariant-loop l = l.zeros.items ≡ replicate l.counter 0
