use Rattle.std.proofs.Common.{◌≡◌, ◌≤◌, map, take, vec_len, vec_capacity}
use Rattle.ftl_cells.specs.shared.Work.{reads_of_step, solution_at}
use Rattle.ftl_replay.proofs.interleavings.scratch.Scratch.result_of.Given as goal

abbrev pub invariant-loop-k : goal.invariant-loop-k
invariant-loop-k g l = record {
  read : l.self.reads.items ≡ map (solution_at (g.W.Meant.meaning l.work))
      (take l.k (reads_of_step (g.W.Meant.meaning l.work) l.item l.step));
  count : vec_len l.self.reads ≡ l.k;
  buffer : vec_capacity l.fn.self.reads ≤ vec_capacity l.self.reads;
  room : l.self.stack.room ≡ l.fn.self.stack.room;
}
