use Rattle.ftl_cells.specs.shared.Calls.{IsMadeBy}
use Rattle.ftl_parts_cases.specs.Hands.{AreAll}
use Rattle.ftl_parts_cases.proofs.walks.go_round.Given as goal

abbrev pub invariant-loop-item : goal.invariant-loop-item
invariant-loop-item g l = AreAll (IsMadeBy (g.W.Meant.meaning l.cells.1) l.cells.0) l.hands.items
