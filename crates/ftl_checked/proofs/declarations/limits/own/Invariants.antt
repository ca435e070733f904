use Rattle.std.proofs.Common.{◌≡◌, ◌+◌, drop}
use Rattle.ftl_meaning.specs.faults.Numbering.{own_count}
use Rattle.ftl_checked.proofs.declarations.limits.own.Given as goal

abbrev pub invariant-loop-class : goal.invariant-loop-class
invariant-loop-class l = l.count + own_count (drop l.class-index l.classes) ≡ own_count l.classes
