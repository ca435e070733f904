use Rattle.std.proofs.Common.{None}
use Rattle.ftl_deps.specs.reads.Meant.{meant}
use Rattle.ftl_visit.specs.visits.Visits.{rule_number}
use Rattle.ftl_visit.proofs.rule_tables.ByNumber.{next_entry}
use Rattle.ftl_visit.proofs.rule_tables.tables.own_row.Goals as goal

pub loop-attr-preserved : goal.loop-attr-preserved
loop-attr-preserved c =
    next_entry (rule_number (meant c.args.index.now) c.args.class None) c.loop-attr.attr c.loop-attr.row
    c.push.new.self c.own.result c.in_ok-push.ensures.ok
    c.loop-attr.invariant c.own.ensures.number
