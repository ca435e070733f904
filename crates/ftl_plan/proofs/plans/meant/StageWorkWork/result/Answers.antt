use Rattle.std.proofs.Common.{◌≡◌, ◌≤◌, ◌∙◌, ap, length, subst, sym}
use Rattle.ftl_cells.specs.shared.Work.{IsStepOfItem, read_total, solution_at, solved_reads, target_of}
use Rattle.ftl_plan.proofs.plans.Bridge.{most_stack}
use Rattle.ftl_plan.specs.plans.StageParts.{StageView, meaning_at}
use Rattle.ftl_plan.proofs.plans.meant.StageWorkWork.result.Goals as goal

pub result-requires-clause-step : goal.result-requires-clause-step
result-requires-clause-step c =
    subst (λ (v : StageView). IsStepOfItem (meaning_at v) c.args.item c.args.step) (sym c.self.view_is) c.requires.step

pub result-requires-clause-reads : goal.result-requires-clause-reads
result-requires-clause-reads c =
    subst (λ (v : StageView). length c.args.reads.now ≡ read_total (meaning_at v) c.args.item c.args.step)
    (sym c.self.view_is) c.requires.reads

pub result-requires-clause-room : goal.result-requires-clause-room
result-requires-clause-room c =
    subst (λ n. n ≤ c.args.stack.now.room)
    (most_stack c.args.self.now ∙ ap (λ (v : StageView). v.max_stack) (sym c.self.view_is)) c.requires.room

pub returns : goal.returns
returns c = record {
  value =
      subst
      (λ (v : StageView). c.args.reads.now ≡ solved_reads (meaning_at v) c.args.item c.args.step
      → c.result.result ≡ solution_at (meaning_at v) (target_of (meaning_at v) c.args.item c.args.step))
      c.self.view_is c.result.ensures.value;
  room = c.result.ensures.room;
}
