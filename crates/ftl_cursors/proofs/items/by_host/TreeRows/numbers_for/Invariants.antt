use Rattle.std.proofs.Common.{◌≡◌, ◌<◌, length, take}
use Rattle.std.specs.List.{All}
use Rattle.ftl_cursors.specs.items.HostRows.{hosts_by}
use Rattle.ftl_cursors.proofs.items.by_host.TreeRows.numbers_for.Given as goal

abbrev pub invariant-loop-host : goal.invariant-loop-host
invariant-loop-host l = record {
  known : All (λ n. n < length l.self.by_host.items) l.numbers.items;
  hosts : hosts_by l.self l.numbers.items ≡ take l.host-index l.hosts;
}
