use Rattle.ftl_cells.proofs.shared.Consequences.{end_tells, end_holds}
use Rattle.ftl_cells.proofs.shared.laws.end_means_all.Goals as goal

pub returns : goal.returns
returns c = record {
  items = end_tells;
  cells = end_holds;
}
