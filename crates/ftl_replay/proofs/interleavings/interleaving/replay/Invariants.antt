use Rattle.std.proofs.Common.{◌≤◌, take, vec_capacity}
use Rattle.ftl_replay.specs.interleavings.Replays.{LeadTo}
use Rattle.ftl_replay.proofs.interleavings.interleaving.replay.Given as goal

abbrev pub invariant-loop-at : goal.invariant-loop-at
invariant-loop-at g l = record {
  lead : LeadTo (g.W.Meant.meaning l.work) l.fn.words.items (take l.at l.events) l.row.items l.hands.items;
  reads : (g.W.Meant.meaning l.work).max_reads ≤ vec_capacity l.scratch.reads;
  room : (g.W.Meant.meaning l.work).max_stack ≤ l.scratch.stack.room;
}
