use Rattle.std.proofs.Common.{◌≡◌, take}
use Rattle.ftl_meaning.specs.faults.Numbering.{own_count}
use Rattle.ftl_visit.proofs.rule_tables.attributes.own_before.Given as goal

abbrev pub invariant-loop-at : goal.invariant-loop-at
invariant-loop-at l = l.total ≡ own_count (take l.at l.classes)
