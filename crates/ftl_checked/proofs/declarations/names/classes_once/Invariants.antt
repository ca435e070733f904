use Rattle.std.proofs.Common.{◌≡◌, drop}
use Rattle.ftl_checked.specs.declarations.NameFaults.{classes_fault}
use Rattle.ftl_checked.proofs.declarations.names.classes_once.Given as goal

abbrev pub invariant-loop-number : goal.invariant-loop-number
invariant-loop-number l =
    classes_fault l.grammar 0 l.grammar.classes ≡ classes_fault l.grammar l.number (drop l.number l.grammar.classes)
