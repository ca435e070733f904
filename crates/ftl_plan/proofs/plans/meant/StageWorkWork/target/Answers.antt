use Rattle.std.proofs.Common.{◌∙◌, ap, subst, sym}
use Rattle.ftl_cells.specs.shared.Work.{IsStepOfItem, target_of}
use Rattle.ftl_plan.specs.plans.StageParts.{StageView, meaning_at}
use Rattle.ftl_plan.proofs.plans.meant.StageWorkWork.target.Goals as goal

pub target-requires-clause-step : goal.target-requires-clause-step
target-requires-clause-step c =
    subst (λ (v : StageView). IsStepOfItem (meaning_at v) c.args.item c.args.step) (sym c.self.view_is) c.requires.step

pub returns : goal.returns
returns c = record {
  target =
      c.target.ensures.target
      ∙ ap (λ (v : StageView). target_of (meaning_at v) c.args.item c.args.step) c.self.view_is;
}
