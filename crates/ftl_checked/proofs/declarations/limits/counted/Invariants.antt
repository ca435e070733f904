use Rattle.std.proofs.Common.{◌≡◌, ◌+◌, ◌≤◌, drop, length, filter}
use Rattle.ftl_meaning.specs.faults.FirstFault.{is_counted}
use Rattle.ftl_checked.proofs.declarations.limits.counted.Given as goal

abbrev pub invariant-loop-read : goal.invariant-loop-read
invariant-loop-read l =
    (l.count + length (filter is_counted (drop l.read-index l.reads)) ≡ length (filter is_counted l.reads))
    × (l.count ≤ l.read-index)
