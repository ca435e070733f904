use Rattle.std.proofs.Common.{◌≡◌, drop}
use Rattle.ftl_meaning.specs.faults.FirstFault.{first_of}
use Rattle.ftl_checked.specs.grammars.MissingRules.{missing_for_kid}
use Rattle.ftl_meaning.specs.faults.Numbering.{children_of, numbered, class_at}
use Rattle.ftl_checked.proofs.grammars.missing_rules.missing_for_kids.Given as goal

abbrev pub invariant-loop-place : goal.invariant-loop-place
invariant-loop-place l =
    first_of (missing_for_kid l.grammar l.number) (children_of l.grammar l.number)
    ≡ first_of (missing_for_kid l.grammar l.number) (numbered l.place (drop l.place (class_at l.grammar l.number).children))
