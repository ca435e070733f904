use Rattle.ftl_cells.proofs.shared.KeptSteps.{kept}
use Rattle.ftl_cells.proofs.shared.laws.rule_is_kept.Goals as goal

pub returns : goal.returns
returns c = record {
  kept =
      λ m words hands law r. kept m law words hands r;
}
