use Rattle.std.proofs.Common.{◌≡◌, drop}
use Rattle.ftl_meaning.specs.faults.FirstFault.{first_of, class_limits}
use Rattle.ftl_checked.proofs.declarations.limits.classes_limits.Given as goal

abbrev pub invariant-loop-class : goal.invariant-loop-class
invariant-loop-class l = first_of (class_limits) l.classes ≡ first_of (class_limits) (drop l.class-index l.classes)
