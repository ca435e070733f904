use Rattle.std.proofs.Common.{◌≡◌, ◌≤◌, vec_capacity}
use Rattle.ftl_cells.specs.shared.State.{live}
use Rattle.ftl_cells.specs.shared.Calls.{IsMadeBy}
use Rattle.ftl_cells.specs.declared.shared.place.HandPlace.TheVariants.{Idle}
use Rattle.ftl_parts_cases.proofs.turns.take_turns.Given as goal

abbrev pub invariant-loop-item : goal.invariant-loop-item
invariant-loop-item g l = record {
  one : IsMadeBy (g.W.Meant.meaning l.cells.1) l.cells.0 l.a;
  two : IsMadeBy (g.W.Meant.meaning l.cells.1) l.cells.0 l.b;
  three : IsMadeBy (g.W.Meant.meaning l.cells.1) l.cells.0 l.c;
  one_idle : l.a.state.place ≡ live Idle;
  two_idle : l.b.state.place ≡ live Idle;
  three_idle : l.c.state.place ≡ live Idle;
  buffer : (g.W.Meant.meaning l.cells.1).max_reads ≤ vec_capacity l.reads;
  room : l.stack.room ≡ l.initial.stack.room;
}
