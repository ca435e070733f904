use Rattle.std.proofs.Common.{◌≡◌, drop}
use Rattle.ftl_meaning.specs.faults.FirstFault.{first_of}
use Rattle.ftl_checked.specs.declarations.NameFaults.{kid_interface_fault}
use Rattle.ftl_checked.proofs.declarations.names.kid_interfaces_known.Given as goal

abbrev pub invariant-loop-child : goal.invariant-loop-child
invariant-loop-child l = first_of (kid_interface_fault l.grammar) l.children ≡ first_of (kid_interface_fault l.grammar) (drop l.child-index l.children)
