use Rattle.std.proofs.Common.{◌≡◌, Some}
use Rattle.ftl_deps.specs.reads.Meant.{meant}
use Rattle.ftl_visit.specs.rule_tables.RuleTables.{by_number, rules_by_attribute}
use Rattle.ftl_visit.proofs.rule_tables.tables.class_kid_rules.Given as goal

abbrev pub invariant-loop-child : goal.invariant-loop-child
invariant-loop-child l = l.table ≡ by_number (λ c. rules_by_attribute (meant l.index) l.class (Some c)) l.child
