use Rattle.std.proofs.Common.{◌<◌, ◌∙◌, ap, subst, sym}
use Rattle.ftl_cells.specs.shared.Work.{item_total, next_at, next_total}
use Rattle.ftl_plan.specs.plans.StageParts.{StageView, meaning_at}
use Rattle.ftl_plan.proofs.plans.meant.StageWorkWork.next.Goals as goal

pub next-requires-clause-item : goal.next-requires-clause-item
next-requires-clause-item c =
    subst (λ (v : StageView). c.args.item < item_total (meaning_at v)) (sym c.self.view_is) c.requires.item

pub next-requires-clause-place : goal.next-requires-clause-place
next-requires-clause-place c =
    subst (λ (v : StageView). c.args.k < next_total (meaning_at v) c.args.item) (sym c.self.view_is) c.requires.place

pub returns : goal.returns
returns c = record {
  next = c.next.ensures.next ∙ ap (λ (v : StageView). next_at (meaning_at v) c.args.item c.args.k) c.self.view_is;
}
