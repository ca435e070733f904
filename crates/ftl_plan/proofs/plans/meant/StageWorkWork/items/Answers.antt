use Rattle.std.proofs.Common.{◌∙◌, ap, subst}
use Rattle.ftl_cells.specs.shared.Work.{IsLawfulWork, item_total}
use Rattle.ftl_plan.specs.plans.StageParts.{StageView, meaning_at}
use Rattle.ftl_plan.proofs.plans.meant.StageWorkWork.items.Goals as goal

pub returns : goal.returns
returns c = record {
  count = c.items.ensures.count ∙ ap (λ (v : StageView). item_total (meaning_at v)) c.self.view_is;
  lawful = subst (λ (v : StageView). IsLawfulWork (meaning_at v)) c.self.view_is c.items.ensures.lawful;
}
