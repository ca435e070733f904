use Rattle.ftl_deps.specs.reads.Meant.{meant}
use Rattle.ftl_visit.specs.rule_tables.RuleTables.{class_kid_rules}
use Rattle.ftl_visit.proofs.rule_tables.ByNumber.{next_entry}
use Rattle.ftl_visit.proofs.rule_tables.tables.kid_rules.Goals as goal

pub loop-class-preserved : goal.loop-class-preserved
loop-class-preserved c =
    next_entry (class_kid_rules (meant c.args.index.now)) c.loop-class.class c.loop-class.table c.push.new.self
    c.in_ok-class_kid_rules.field-0 c.in_ok-push.ensures.ok
    c.loop-class.invariant c.in_ok-class_kid_rules.ensures.rules
