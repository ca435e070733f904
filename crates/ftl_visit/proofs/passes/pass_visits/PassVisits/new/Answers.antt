use Rattle.std.proofs.Common.{◌∙◌}
use Rattle.ftl_deps.specs.reads.Meant.{meant}
use Rattle.ftl_visit.proofs.passes.MadeVisits.{made_more}
use Rattle.ftl_visit.proofs.passes.pass_visits.PassVisits.new.Goals as goal

pub loop-class-preserved : goal.loop-class-preserved
loop-class-preserved c =
    made_more (meant c.args.index.now) c.args.kind c.args.attrs.now c.loop-class.class
    c.loop-class.starts.items c.add_run.new.starts.items c.loop-class.ops.items c.add_run.new.ops.items
    c.as_slice.result.now c.loop-class.invariant c.in_ok-add_run.ensures.cut c.in_ok-add_run.ensures.added
    (c.as_slice.ensures ∙ c.in_ok-visit.ensures.visit)
