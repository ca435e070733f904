use Rattle.std.proofs.Common.{subst, sym}
use Rattle.ftl_host_cursors.specs.NestTables.{nest_steps_left}
use Rattle.ftl_plan.specs.plans.StageParts.{IsStepAt}
use Rattle.ftl_plan.proofs.plans.Bridge.{step_is, step_known}
use Rattle.ftl_plan.proofs.plans.parts.StageParts.step.Goals as goal

pub step_at-requires : goal.step_at-requires
step_at-requires c = record {
  place =
      step_known c.args.self.now c.requires.fit c.args.item c.args.place (nest_steps_left c.cursor.result) c.requires.step
      c.cursor.ensures.steps;
}

pub returns : goal.returns
returns c = record {
  step =
      subst (IsStepAt c.args.self.now c.args.item c.args.place) (sym c.step_at.ensures.step)
      (step_is c.args.self.now c.requires.fit c.args.item c.args.place (nest_steps_left c.cursor.result) c.requires.step
      c.cursor.ensures.steps);
}
