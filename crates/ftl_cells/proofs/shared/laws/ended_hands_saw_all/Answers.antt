use Rattle.ftl_cells.proofs.shared.Runs.{saw_all, saw_solution}
use Rattle.ftl_cells.proofs.shared.laws.ended_hands_saw_all.Goals as goal

pub returns : goal.returns
returns c = record {
  items = saw_all;
  cells = saw_solution;
}
