use Rattle.ftl_cells.specs.shared.Calls.{IsMadeBy}
use Rattle.ftl_parts_cases.specs.Hands.{AreAll}
use Rattle.ftl_parts_cases.proofs.walks.end_walk.Given as goal

abbrev pub invariant-loop : goal.invariant-loop
invariant-loop g l = AreAll (IsMadeBy (g.W.Meant.meaning l.cells.1) l.cells.0) l.hands.items
