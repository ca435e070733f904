use Rattle.std.proofs.Common.{◌≡◌, drop}
use Rattle.ftl_meaning.specs.faults.FirstFault.{first_of}
use Rattle.ftl_checked.specs.declarations.NameFaults.{once_fault}
use Rattle.ftl_checked.proofs.declarations.names.interfaces_once.Given as goal

abbrev pub invariant-loop-number : goal.invariant-loop-number
invariant-loop-number l = first_of once_fault l.grammar.interfaces ≡ first_of once_fault (drop l.number l.grammar.interfaces)
