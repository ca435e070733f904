use Rattle.std.proofs.Common.{◌≡◌, drop}
use Rattle.ftl_meaning.specs.faults.FirstFault.{first_of}
use Rattle.ftl_checked.specs.declarations.NameFaults.{interfaces_fault}
use Rattle.ftl_checked.proofs.declarations.names.all_interfaces_known.Given as goal

abbrev pub invariant-loop-class : goal.invariant-loop-class
invariant-loop-class l = first_of (interfaces_fault l.grammar) l.grammar.classes ≡ first_of (interfaces_fault l.grammar) (drop l.class-index l.grammar.classes)
