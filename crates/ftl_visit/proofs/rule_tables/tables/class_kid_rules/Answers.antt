use Rattle.std.proofs.Common.{Some}
use Rattle.ftl_deps.specs.reads.Meant.{meant}
use Rattle.ftl_visit.specs.rule_tables.RuleTables.{rules_by_attribute}
use Rattle.ftl_visit.proofs.rule_tables.ByNumber.{next_entry}
use Rattle.ftl_visit.proofs.rule_tables.tables.class_kid_rules.Goals as goal

pub loop-child-preserved : goal.loop-child-preserved
loop-child-preserved c =
    next_entry (λ n. rules_by_attribute (meant c.args.index.now) c.args.class (Some n)) c.loop-child.child
    c.loop-child.table c.push.new.self c.in_ok-kid_row.field-0 c.in_ok-push.ensures.ok
    c.loop-child.invariant c.in_ok-kid_row.ensures.rules
