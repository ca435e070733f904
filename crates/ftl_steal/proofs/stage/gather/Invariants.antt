use Rattle.std.proofs.Common.{◌≡◌, ◌+◌, ◌++◌, vec_len}
use Rattle.std.specs.List.{All}
use Rattle.std.specs.Vec.Iter.{into_iter_items, into_iter_len}
use Rattle.ftl_cells.specs.shared.State.{live}
use Rattle.ftl_cells.specs.shared.Calls.{IsMadeBy}
use Rattle.ftl_cells.specs.declared.shared.place.HandPlace.TheVariants.{Idle}
use Rattle.ftl_steal.specs.Workers.{IsIdleMember, AreNumbered, holds_of, steps_made}
use Rattle.ftl_steal.proofs.stage.gather.Given as goal

abbrev pub invariant-loop-number : goal.invariant-loop-number
invariant-loop-number g l = record {
  made : IsMadeBy (g.W.Meant.meaning l.cells.1) l.cells.0 l.hand;
  idle : l.hand.state.place ≡ live Idle;
  steps : steps_made l.hand.state ≡ steps_made l.fn.hand.state + l.number;
  left : into_iter_len l.holds + l.number ≡ l.workers;
  count : vec_len l.members ≡ l.number;
  members : All (IsIdleMember (g.W.Meant.meaning l.cells.1) l.cells.0 l.pool) l.members.items;
  numbers : AreNumbered l.members.items;
  holds : holds_of l.members.items ++ into_iter_items l.holds ≡ l.fn.holds.items;
}
