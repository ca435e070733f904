use Rattle.std.proofs.Common.{◌∙◌}
use Rattle.ftl_plan.proofs.plans.Bridge.{item_known, next_is, place_known}
use Rattle.ftl_plan.proofs.plans.parts.StageParts.next.Goals as goal

pub next-requires : goal.next-requires
next-requires c =
    let w = c.args.self.now in
    record {
      item = item_known w c.requires.fit c.args.item c.requires.item;
      place = place_known w c.requires.fit c.args.item c.args.k c.requires.item c.requires.place;
    }

pub returns : goal.returns
returns c = record {
  next =
      c.next.ensures.next
      ∙ next_is c.args.self.now c.requires.fit c.args.item c.args.k c.requires.item c.requires.place;
}
