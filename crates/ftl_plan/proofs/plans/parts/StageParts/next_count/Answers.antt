use Rattle.std.proofs.Common.{◌∙◌}
use Rattle.ftl_plan.proofs.plans.Bridge.{item_known, nexts_are}
use Rattle.ftl_plan.proofs.plans.parts.StageParts.next_count.Goals as goal

pub next_count-requires : goal.next_count-requires
next_count-requires c = record { item = item_known c.args.self.now c.requires.fit c.args.item c.requires.item }

pub returns : goal.returns
returns c = record {
  count = c.next_count.ensures.count ∙ nexts_are c.args.self.now c.requires.fit c.args.item c.requires.item;
}
