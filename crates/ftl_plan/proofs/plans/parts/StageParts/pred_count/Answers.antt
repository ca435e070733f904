use Rattle.std.proofs.Common.{◌∙◌}
use Rattle.ftl_plan.proofs.plans.Bridge.{item_known, preds_are}
use Rattle.ftl_plan.proofs.plans.parts.StageParts.pred_count.Goals as goal

pub pred_count-requires : goal.pred_count-requires
pred_count-requires c = record { item = item_known c.args.self.now c.requires.fit c.args.item c.requires.item }

pub returns : goal.returns
returns c = record {
  count = c.pred_count.ensures.count ∙ preds_are c.args.self.now c.requires.fit c.args.item c.requires.item;
}
