use Rattle.std.proofs.Common.{get_or, take, ◌+◌, ap, ◌∙◌, add-one}
use Rattle.std.proofs.Math.Seq.{take-suc}
use Rattle.ftl_scheduler.proofs.largest_sets.Marks.{at_in}
use Rattle.ftl_scheduler.proofs.outcomes.PassChains.{added_more}
use Rattle.ftl_scheduler.proofs.outcomes.passes.add_all.Goals as goal

pub put-requires : goal.put-requires
put-requires c = record {
  bit =
      c.requires.few (get_or c.args.attrs.now c.loop-attr.attr-index 0)
      (at_in c.args.attrs.now c.loop-attr.attr-index c.loop-attr-test.true);
}

pub loop-attr-preserved : goal.loop-attr-preserved
loop-attr-preserved c =
    added_more c.args.row.now c.loop-attr.row c.put.new.self (take c.loop-attr.attr-index c.args.attrs.now)
    (take (c.loop-attr.attr-index + 1) c.args.attrs.now) (get_or c.args.attrs.now c.loop-attr.attr-index 0)
    c.loop-attr.invariant (ap (λ m. take m c.args.attrs.now) (add-one c.loop-attr.attr-index)
    ∙ take-suc c.args.attrs.now c.loop-attr.attr-index 0 c.loop-attr-test.true) c.put.ensures.added
