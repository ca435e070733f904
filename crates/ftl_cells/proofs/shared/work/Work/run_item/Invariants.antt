use Rattle.std.proofs.Common.{◌≡◌, ◌≤◌, map, take, vec_len, vec_capacity}
use Rattle.ftl_cells.specs.shared.Work.{reads_of_step, solution_at}
use Rattle.ftl_cells.specs.shared.State.{live}
use Rattle.ftl_cells.specs.declared.shared.place.HandPlace.TheVariants.{Working}
use Rattle.ftl_cells.proofs.shared.work.Work.run_item.Given as goal

abbrev pub invariant-loop-k : goal.invariant-loop-k
invariant-loop-k g l = record {
  fit : g.F.Filler.fit l.filler;
  of : g.F.Filler.of l.filler ≡ g.Self.Meant.meaning l.self;
  at : g.F.Filler.place l.filler ≡ live (Working l.item l.step l.k);
  keeps : g.F.Filler.keeps l.fn.filler l.filler;
  read : l.reads.items ≡ map (solution_at (g.Self.Meant.meaning l.self))
      (take l.k (reads_of_step (g.Self.Meant.meaning l.self) l.item l.step));
  count : vec_len l.reads ≡ l.k;
  buffer : vec_capacity l.fn.reads ≤ vec_capacity l.reads;
}

abbrev pub invariant-loop-step : goal.invariant-loop-step
invariant-loop-step g l = record {
  fit : g.F.Filler.fit l.filler;
  of : g.F.Filler.of l.filler ≡ g.Self.Meant.meaning l.self;
  at : g.F.Filler.place l.filler ≡ live (Working l.item l.step 0);
  keeps : g.F.Filler.keeps l.fn.filler l.filler;
  buffer : vec_capacity l.fn.reads ≤ vec_capacity l.reads;
  room : l.stack.room ≡ l.fn.stack.room;
}
