use Rattle.std.proofs.Common.{◌≡◌, ℕ, ◌<◌, false}
use Rattle.ftl_cursors.specs.items.HostRows.{host_at, is_one_host}
use Rattle.ftl_cursors.proofs.items.by_host.TreeRows.number_for.Given as goal

abbrev pub invariant-loop-number : goal.invariant-loop-number
invariant-loop-number l = (k : ℕ) → k < l.number → is_one_host (host_at l.self k) l.host ≡ false
