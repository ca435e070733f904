use Rattle.ftl_visit.proofs.rule_tables.AttributeRuns.{run_more}
use Rattle.ftl_visit.proofs.rule_tables.attributes.add_run.Goals as goal

pub loop-attr-preserved : goal.loop-attr-preserved
loop-attr-preserved c =
    run_more c.args.attrs.now c.loop-attr.attrs c.push.new.self c.args.first c.loop-attr.attr
    c.loop-attr.auto.attr c.loop-attr.invariant c.in_ok-push.ensures.ok
