use Rattle.std.proofs.Common.{◌≡◌}
use Rattle.ftl_deps.specs.reads.Meant.{meant}
use Rattle.ftl_visit.specs.rule_tables.RuleTables.{by_number, class_kid_rules}
use Rattle.ftl_visit.proofs.rule_tables.tables.kid_rules.Given as goal

abbrev pub invariant-loop-class : goal.invariant-loop-class
invariant-loop-class l = l.table ≡ by_number (class_kid_rules (meant l.index)) l.class
