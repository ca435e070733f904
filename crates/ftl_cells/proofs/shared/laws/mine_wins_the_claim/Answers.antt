use Rattle.ftl_cells.proofs.shared.Runs.{mine_wins}
use Rattle.ftl_cells.proofs.shared.laws.mine_wins_the_claim.Goals as goal

pub returns : goal.returns
returns c = record {
  wins =
      mine_wins;
}
