use Rattle.std.proofs.Common.{ℕ, ◌++◌, List, ap, sym, ◌∙◌}
use Rattle.ftl_deps.specs.reads.Meant.{meant}
use Rattle.ftl_visit.specs.visits.Visits.{child_block}
use Rattle.ftl_visit.specs.declared.visits.visit_op.VisitOp.{VisitOp}
use Rattle.ftl_visit.proofs.visits.Children.{child_more}
use Rattle.ftl_visit.proofs.visits.blocks.add_blocks.Goals as goal

pub loop-child-preserved : goal.loop-child-preserved
loop-child-preserved c =
    let n = c.loop-child.child in
    let f : ℕ → List VisitOp = child_block (meant c.args.index.now) c.args.class c.args.attrs.now in
    c.in_ok-add_block.ensures.added
    ∙ ap (λ ops. ops ++ f n) c.loop-child.invariant
    ∙ sym (child_more f c.args.ops.now n)
