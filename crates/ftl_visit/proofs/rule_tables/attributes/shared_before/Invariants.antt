use Rattle.std.proofs.Common.{◌≡◌, take}
use Rattle.ftl_meaning.specs.faults.Numbering.{shared_count}
use Rattle.ftl_visit.proofs.rule_tables.attributes.shared_before.Given as goal

abbrev pub invariant-loop-at : goal.invariant-loop-at
invariant-loop-at l = l.total ≡ shared_count (take l.at l.interfaces)
