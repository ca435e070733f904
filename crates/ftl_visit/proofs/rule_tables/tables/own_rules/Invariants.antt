use Rattle.std.proofs.Common.{◌≡◌, None}
use Rattle.ftl_deps.specs.reads.Meant.{meant}
use Rattle.ftl_visit.specs.rule_tables.RuleTables.{by_number, rules_by_attribute}
use Rattle.ftl_visit.proofs.rule_tables.tables.own_rules.Given as goal

abbrev pub invariant-loop-class : goal.invariant-loop-class
invariant-loop-class l = l.table ≡ by_number (λ k. rules_by_attribute (meant l.index) k None) l.class
