use Rattle.ftl_cells.specs.shared.Calls.{IsMadeBy}
use Rattle.ftl_parts_cases.specs.Hands.{AreAll}
use Rattle.ftl_parts_cases.proofs.walks.go_through.Given as goal

abbrev pub invariant-loop-event : goal.invariant-loop-event
invariant-loop-event g l = AreAll (IsMadeBy (g.W.Meant.meaning l.cells.1) l.cells.0) l.hands.items
