use Rattle.ftl_cells.proofs.shared.Preceded.{preceded}
use Rattle.ftl_cells.proofs.shared.laws.next_items_have_predecessors.Goals as goal

pub returns : goal.returns
returns c = record {
  predecessors =
      preceded;
}
