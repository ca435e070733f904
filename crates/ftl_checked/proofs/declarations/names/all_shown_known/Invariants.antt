use Rattle.std.proofs.Common.{◌≡◌, drop}
use Rattle.ftl_meaning.specs.faults.FirstFault.{first_of}
use Rattle.ftl_checked.specs.declarations.NameFaults.{shown_fault}
use Rattle.ftl_checked.proofs.declarations.names.all_shown_known.Given as goal

abbrev pub invariant-loop-number : goal.invariant-loop-number
invariant-loop-number l = first_of shown_fault l.grammar.interfaces ≡ first_of shown_fault (drop l.number l.grammar.interfaces)
