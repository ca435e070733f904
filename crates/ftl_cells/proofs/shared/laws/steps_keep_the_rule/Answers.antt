use Rattle.ftl_cells.proofs.shared.KeptSteps.{kept_after}
use Rattle.ftl_cells.proofs.shared.Runs.{kept_later}
use Rattle.ftl_cells.proofs.shared.laws.steps_keep_the_rule.Goals as goal

pub returns : goal.returns
returns c = record {
  one = λ m words next hands more law k step. kept_after m law words next hands more k step;
  many = λ m words next hands more law k run. kept_later m law words hands next more k run;
}
