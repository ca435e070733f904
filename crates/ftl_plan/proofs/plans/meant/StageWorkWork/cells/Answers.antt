use Rattle.std.proofs.Common.{◌∙◌, ap}
use Rattle.ftl_cells.specs.shared.Work.{cell_total}
use Rattle.ftl_plan.specs.plans.StageParts.{StageView, meaning_at}
use Rattle.ftl_plan.proofs.plans.meant.StageWorkWork.cells.Goals as goal

pub returns : goal.returns
returns c = record {
  count = c.cells.ensures.count ∙ ap (λ (v : StageView). cell_total (meaning_at v)) c.self.view_is;
}
