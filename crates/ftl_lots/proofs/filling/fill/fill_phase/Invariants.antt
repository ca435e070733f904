use Rattle.std.proofs.Common.{◌≡◌, ◌-◌, ◌≤◌, length, vec_capacity}
use Rattle.ftl_lots.specs.filling.Filled.{IsFilledIn}
use Rattle.ftl_lots.proofs.filling.fill.fill_phase.Given as goal

abbrev pub invariant-loop-item : goal.invariant-loop-item
invariant-loop-item g l = record {
  filled : IsFilledIn (g.W.Meant.meaning l.work) l.phases l.phase
      (g.S.WordRow.words l.words) l.first l.item 0;
  count : length (g.S.WordRow.words l.words) ≡ length (g.S.WordRow.words l.fn.words);
  laid_out : g.S.WordRow.fit l.words;
  layout : g.S.WordRow.layout l.words ≡ g.S.WordRow.layout l.fn.words;
  reads : vec_capacity l.fn.reads ≤ vec_capacity l.reads;
  room : l.stack.room ≡ l.fn.stack.room;
}

abbrev pub decreases-loop-item : goal.decreases-loop-item
decreases-loop-item g l = l.span.to - l.item
