use Rattle.std.proofs.Common.{◌≡◌, vec_len}
use Rattle.ftl_lots.specs.filling.Spans.{AreSpans}
use Rattle.ftl_lots.proofs.filling.spans.spans_of.Given as goal

abbrev pub invariant-loop-item : goal.invariant-loop-item
invariant-loop-item l = record {
  count : vec_len l.spans ≡ l.phases.ranges;
  spanned : AreSpans l.phases l.item l.spans.items;
}
