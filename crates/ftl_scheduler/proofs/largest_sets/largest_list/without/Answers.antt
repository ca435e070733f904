use Rattle.std.proofs.Common.{get_or}
use Rattle.ftl_scheduler.proofs.largest_sets.Marks.{at_in}
use Rattle.ftl_scheduler.proofs.largest_sets.largest_list.without.Goals as goal

pub has-requires : goal.has-requires
has-requires c = record {
  bit =
      c.requires.few (get_or c.args.attrs.now c.loop-attr.attr-index 0)
      (at_in c.args.attrs.now c.loop-attr.attr-index c.loop-attr-test.true);
}
