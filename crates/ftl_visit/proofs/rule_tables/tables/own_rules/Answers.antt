use Rattle.std.proofs.Common.{None}
use Rattle.ftl_deps.specs.reads.Meant.{meant}
use Rattle.ftl_visit.specs.rule_tables.RuleTables.{rules_by_attribute}
use Rattle.ftl_visit.proofs.rule_tables.ByNumber.{next_entry}
use Rattle.ftl_visit.proofs.rule_tables.tables.own_rules.Goals as goal

pub loop-class-preserved : goal.loop-class-preserved
loop-class-preserved c =
    next_entry (λ k. rules_by_attribute (meant c.args.index.now) k None) c.loop-class.class c.loop-class.table
    c.push.new.self c.in_ok-own_row.field-0 c.in_ok-push.ensures.ok
    c.loop-class.invariant c.in_ok-own_row.ensures.rules
