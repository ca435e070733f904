use Rattle.std.proofs.Common.{◌<◌, ◌∙◌, ◌^◌, subst, sym}
use Rattle.ftl_host_cursors.specs.NestTables.{nest_steps_left}
use Rattle.ftl_plan.proofs.plans.Bridge.{count_is}
use Rattle.ftl_plan.proofs.plans.parts.StageParts.step_count.Goals as goal

pub step_count-requires : goal.step_count-requires
step_count-requires c = record {
  few =
      subst (λ n. n < 2 ^ 32)
      (sym
      (count_is c.args.self.now c.requires.fit c.args.item (nest_steps_left c.cursor.result) c.requires.item
      c.cursor.ensures.steps))
      (c.items-items.ensures.lawful.counted c.args.item c.requires.item).1;
}

pub returns : goal.returns
returns c = record {
  count =
      c.step_count.ensures.count
      ∙ count_is c.args.self.now c.requires.fit c.args.item (nest_steps_left c.cursor.result) c.requires.item
      c.cursor.ensures.steps;
}
