use Rattle.std.proofs.Common.{◌≡◌, drop}
use Rattle.ftl_meaning.specs.faults.FirstFault.{first_of}
use Rattle.ftl_checked.specs.declarations.NameFaults.{unknown_fault}
use Rattle.ftl_checked.proofs.declarations.names.all_known.Given as goal

abbrev pub invariant-loop-name : goal.invariant-loop-name
invariant-loop-name l = first_of (unknown_fault l.table) l.names ≡ first_of (unknown_fault l.table) (drop l.name-index l.names)
