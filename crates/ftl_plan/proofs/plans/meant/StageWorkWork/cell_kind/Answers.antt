use Rattle.std.proofs.Common.{◌<◌, ◌∙◌, ap, subst, sym}
use Rattle.ftl_cells.specs.shared.Work.{cell_total, kind_at}
use Rattle.ftl_plan.specs.plans.StageParts.{StageView, meaning_at}
use Rattle.ftl_plan.proofs.plans.meant.StageWorkWork.cell_kind.Goals as goal

pub kind-requires-clause-cell : goal.kind-requires-clause-cell
kind-requires-clause-cell c =
    subst (λ (v : StageView). c.args.cell < cell_total (meaning_at v)) (sym c.self.view_is) c.requires.cell

pub returns : goal.returns
returns c = record {
  kind = c.kind.ensures.kind ∙ ap (λ (v : StageView). kind_at (meaning_at v) c.args.cell) c.self.view_is;
}
