use Rattle.std.proofs.Common.{◌<◌, ◌∙◌, ap, subst, sym}
use Rattle.ftl_cells.specs.shared.Work.{item_total, pred_total}
use Rattle.ftl_plan.specs.plans.StageParts.{StageView, meaning_at}
use Rattle.ftl_plan.proofs.plans.meant.StageWorkWork.pred_count.Goals as goal

pub pred_count-requires-clause-item : goal.pred_count-requires-clause-item
pred_count-requires-clause-item c =
    subst (λ (v : StageView). c.args.item < item_total (meaning_at v)) (sym c.self.view_is) c.requires.item

pub returns : goal.returns
returns c = record {
  count = c.pred_count.ensures.count ∙ ap (λ (v : StageView). pred_total (meaning_at v) c.args.item) c.self.view_is;
}
