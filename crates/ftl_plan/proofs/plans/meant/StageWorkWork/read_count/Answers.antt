use Rattle.std.proofs.Common.{◌∙◌, ap, subst, sym}
use Rattle.ftl_cells.specs.shared.Work.{IsStepOfItem, read_total}
use Rattle.ftl_plan.specs.plans.StageParts.{StageView, meaning_at}
use Rattle.ftl_plan.proofs.plans.meant.StageWorkWork.read_count.Goals as goal

pub read_count-requires-clause-step : goal.read_count-requires-clause-step
read_count-requires-clause-step c =
    subst (λ (v : StageView). IsStepOfItem (meaning_at v) c.args.item c.args.step) (sym c.self.view_is) c.requires.step

pub returns : goal.returns
returns c = record {
  count =
      c.read_count.ensures.count
      ∙ ap (λ (v : StageView). read_total (meaning_at v) c.args.item c.args.step) c.self.view_is;
}
