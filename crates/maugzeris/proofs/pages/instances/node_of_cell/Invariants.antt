use Rattle.std.proofs.Common.{◌<◌, ◌≤◌, ◌-◌}
use Rattle.ftl_deps.specs.reads.Meant.{meant}
use Rattle.ftl_model.specs.layout.Tree.{size}
use Rattle.ftl_plan.proofs.cells.CellPlaces.{cells_before}
use Rattle.maugzeris.proofs.pages.instances.node_of_cell.Given as goal

abbrev pub invariant-loop-high : goal.invariant-loop-high
invariant-loop-high l = record {
  order : l.low < l.high;
  known : l.high ≤ size l.tree.tree;
  from : cells_before (meant l.tree.checked) l.tree.tree l.low ≤ l.cell;
  to : l.cell < cells_before (meant l.tree.checked) l.tree.tree l.high;
}

abbrev pub decreases-loop-high : goal.decreases-loop-high
decreases-loop-high l = l.high - l.low
