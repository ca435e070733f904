use Rattle.std.proofs.Common.{◌≡◌, ◌≤◌, vec_capacity}
use Rattle.ftl_steal.specs.Alone.{IsFilledTo}
use Rattle.ftl_steal.proofs.alone.run_alone.Given as goal

abbrev pub invariant-loop-item : goal.invariant-loop-item
invariant-loop-item g l = record {
  work : l.filler.work.now ≡ l.work;
  filled : IsFilledTo (g.W.Meant.meaning l.work) l.filler.words.items l.item 0;
  buffer : (g.W.Meant.meaning l.work).max_reads ≤ vec_capacity l.reads;
  room : (g.W.Meant.meaning l.work).max_stack ≤ l.stack.room;
}
