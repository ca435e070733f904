use Rattle.std.proofs.Common.{◌<◌, ◌≤◌, ◌∙◌, ap, subst, sym, vec_capacity}
use Rattle.ftl_cells.specs.shared.State.{live}
use Rattle.ftl_cells.specs.shared.Work.{item_total, step_total}
use Rattle.ftl_cells.specs.declared.shared.place.HandPlace.TheVariants.{Working}
use Rattle.ftl_plan.specs.plans.StageParts.{StageView, meaning_at}
use Rattle.ftl_plan.proofs.plans.Bridge.{most_reads, most_stack}
use Rattle.ftl_plan.proofs.plans.meant.StageWorkWork.run_item.Goals as goal

pub run_item-requires-clause-item : goal.run_item-requires-clause-item
run_item-requires-clause-item g c =
    subst (λ (v : StageView). c.args.item < item_total (meaning_at v)) (sym c.self.view_is) c.requires.item

pub run_item-requires-clause-of : goal.run_item-requires-clause-of
run_item-requires-clause-of g c = c.requires.of ∙ ap meaning_at (sym c.self.view_is)

pub run_item-requires-clause-reads : goal.run_item-requires-clause-reads
run_item-requires-clause-reads g c =
    subst (λ n. n ≤ vec_capacity c.args.reads.now) (most_reads c.args.self.now) c.requires.reads

pub run_item-requires-clause-room : goal.run_item-requires-clause-room
run_item-requires-clause-room g c =
    subst (λ n. n ≤ c.args.stack.now.room)
    (most_stack c.args.self.now ∙ ap (λ (v : StageView). v.max_stack) (sym c.self.view_is)) c.requires.room

pub returns-clause-filled : goal.returns-clause-filled
returns-clause-filled g c =
    c.run_item.ensures.filled
    ∙ ap (λ (v : StageView). live (Working c.args.item (step_total (meaning_at v) c.args.item) 0)) c.self.view_is
