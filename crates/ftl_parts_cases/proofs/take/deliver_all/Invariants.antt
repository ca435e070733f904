use Rattle.ftl_cells.specs.shared.State.{Sends}
use Rattle.ftl_cells.specs.shared.Calls.{IsMadeBy}
use Rattle.ftl_parts_cases.proofs.take.deliver_all.Given as goal

abbrev pub invariant-loop : goal.invariant-loop
invariant-loop g l = record {
  made : IsMadeBy (g.W.Meant.meaning l.cells.1) l.cells.0 l.hand;
  at : Sends l.hand.state.place l.item l.counter;
}
