use Rattle.std.proofs.Common.{◌≡◌, ◌+◌, drop}
use Rattle.ftl_meaning.specs.faults.Numbering.{shared_count}
use Rattle.ftl_checked.proofs.lookup.tables.shared.Given as goal

abbrev pub invariant-loop-interface : goal.invariant-loop-interface
invariant-loop-interface l =
    l.count + shared_count (drop l.interface-index l.interfaces) ≡ shared_count l.interfaces
