use Rattle.std.proofs.Common.{◌<◌, ◌∙◌, ap, subst, sym}
use Rattle.ftl_cells.specs.shared.Work.{IsStepOfItem, read_of, read_total}
use Rattle.ftl_plan.specs.plans.StageParts.{StageView, meaning_at}
use Rattle.ftl_plan.proofs.plans.meant.StageWorkWork.read.Goals as goal

pub read-requires-clause-step : goal.read-requires-clause-step
read-requires-clause-step c =
    subst (λ (v : StageView). IsStepOfItem (meaning_at v) c.args.item c.args.step) (sym c.self.view_is) c.requires.step

pub read-requires-clause-place : goal.read-requires-clause-place
read-requires-clause-place c =
    subst (λ (v : StageView). c.args.k < read_total (meaning_at v) c.args.item c.args.step) (sym c.self.view_is)
    c.requires.place

pub returns : goal.returns
returns c = record {
  cell =
      c.read.ensures.cell
      ∙ ap (λ (v : StageView). read_of (meaning_at v) c.args.item c.args.step c.args.k) c.self.view_is;
}
