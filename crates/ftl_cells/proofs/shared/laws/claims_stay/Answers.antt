use Rattle.ftl_cells.proofs.shared.Runs.{claimed_later}
use Rattle.ftl_cells.proofs.shared.laws.claims_stay.Goals as goal

pub returns : goal.returns
returns c = record {
  stay =
      λ m words next hands more law k run. claimed_later m law words hands next more k run;
}
