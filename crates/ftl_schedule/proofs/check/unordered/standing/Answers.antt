use Rattle.std.proofs.Common.{◌≡◌, None, Some, ap, sym, ◌∙◌}
use Rattle.ftl_order.specs.orders.Ordered.{VisitPlace}
use Rattle.ftl_schedule.proofs.check.RuleCount.{stands}
use Rattle.ftl_schedule.proofs.check.unordered.standing.Goals as goal

pub returns-in-Some : goal.returns-in-Some
returns-in-Some c = record {
  place = stands c.args.checked.now c.grammar.ensures.lawful c.args.rule c.requires.within c.rule-info.result
      c.rule-info.ensures.info (Some c.in-Some.child) c.in-Some.is;
}

pub returns-in-None : goal.returns-in-None
returns-in-None c = record {
  place = ap (λ b. record { attribute = c.rule-info.result.attr; block = b; child = 0 }) c.block_of.ensures.block
      ∙ stands c.args.checked.now c.grammar.ensures.lawful c.args.rule c.requires.within c.rule-info.result
      c.rule-info.ensures.info None c.in-None.is;
}
