use Rattle.ftl_plan.proofs.plans.Bridge.{item_known, steps_are}
use Rattle.ftl_plan.proofs.plans.parts.StageParts.cursor.Goals as goal

pub item_steps-requires-clause-law : goal.item_steps-requires-clause-law
item_steps-requires-clause-law c = c.requires.fit.can.law

pub item_steps-requires-clause-tables : goal.item_steps-requires-clause-tables
item_steps-requires-clause-tables c = c.requires.fit.items

pub item_steps-requires-clause-item : goal.item_steps-requires-clause-item
item_steps-requires-clause-item c = item_known c.args.self.now c.requires.fit c.args.item c.requires.item

pub returns : goal.returns
returns c = record {
  steps = steps_are c.args.self.now c.requires.fit c.args.item c.item_steps.result c.item_steps.ensures.steps;
}
