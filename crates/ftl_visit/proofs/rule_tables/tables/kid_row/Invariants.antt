use Rattle.std.proofs.Common.{◌≡◌, Some}
use Rattle.ftl_deps.specs.reads.Meant.{meant}
use Rattle.ftl_visit.specs.visits.Visits.{rule_number}
use Rattle.ftl_visit.specs.rule_tables.RuleTables.{by_number}
use Rattle.ftl_visit.proofs.rule_tables.tables.kid_row.Given as goal

abbrev pub invariant-loop-attr : goal.invariant-loop-attr
invariant-loop-attr l = l.row ≡ by_number (rule_number (meant l.index) l.class (Some l.child)) l.attr
