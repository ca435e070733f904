use Rattle.ftl_cells.specs.shared.Calls.{IsMadeBy}
use Rattle.ftl_parts_cases.specs.Hands.{AreAll}
use Rattle.ftl_parts_cases.proofs.calls.write_each.Given as goal

abbrev pub invariant-loop-line : goal.invariant-loop-line
invariant-loop-line g l = AreAll (IsMadeBy (g.W.Meant.meaning l.cells.1) l.cells.0) l.hands.items
