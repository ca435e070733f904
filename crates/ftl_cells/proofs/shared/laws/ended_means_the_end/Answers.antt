use Rattle.ftl_cells.proofs.shared.Consequences.{ended_tells}
use Rattle.ftl_cells.proofs.shared.laws.ended_means_the_end.Goals as goal

pub returns : goal.returns
returns c = record {
  end =
      ended_tells;
}
