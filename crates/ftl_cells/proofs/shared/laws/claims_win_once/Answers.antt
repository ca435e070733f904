use Rattle.ftl_cells.proofs.shared.Runs.{won_once}
use Rattle.ftl_cells.proofs.shared.laws.claims_win_once.Goals as goal

pub returns : goal.returns
returns c = record {
  once =
      λ m first next later last all more many most h g i law k one run other. won_once m law first next later last
      all more many most h g i k one run other;
}
