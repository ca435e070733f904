use Rattle.std.proofs.Common.{◌≡◌}
use Rattle.ftl_cells.specs.shared.State.{live}
use Rattle.ftl_cells.specs.shared.Calls.{IsMadeBy}
use Rattle.ftl_cells.specs.declared.shared.place.HandPlace.TheVariants.{Idle}
use Rattle.ftl_parts_cases.proofs.turns.work_off.Given as goal

abbrev pub invariant-loop : goal.invariant-loop
invariant-loop g l = record {
  made : IsMadeBy (g.W.Meant.meaning l.cells.1) l.cells.0 l.hand;
  idle : l.hand.state.place ≡ live Idle;
}
