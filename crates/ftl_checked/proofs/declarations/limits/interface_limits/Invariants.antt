use Rattle.std.proofs.Common.{◌≡◌, drop, length}
use Rattle.ftl_meaning.specs.faults.FirstFault.{first_of, too_many}
use Rattle.ftl_meaning.specs.declared.faults.fault.What.TheVariants as what
use Rattle.ftl_checked.proofs.declarations.limits.interface_limits.Given as goal

abbrev pub invariant-loop-interface : goal.invariant-loop-interface
invariant-loop-interface l = first_of (λ x. too_many what.Attributes 64 (length x.attrs)) l.interfaces ≡ first_of (λ x. too_many what.Attributes 64 (length x.attrs)) (drop l.interface-index l.interfaces)
