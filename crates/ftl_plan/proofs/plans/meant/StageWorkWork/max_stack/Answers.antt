use Rattle.std.proofs.Common.{◌∙◌, ap, sym}
use Rattle.ftl_plan.specs.plans.StageParts.{StageView}
use Rattle.ftl_plan.proofs.plans.Bridge.{most_stack}
use Rattle.ftl_plan.proofs.plans.meant.StageWorkWork.max_stack.Goals as goal

pub returns : goal.returns
returns c = record {
  bound =
      c.max_stack.ensures.room
      ∙ ap (λ (v : StageView). v.max_stack) c.self.view_is
      ∙ sym (most_stack c.args.self.now);
}
