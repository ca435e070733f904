use Rattle.std.proofs.Common.{sym, subst}
use Rattle.ftl_deps.specs.reads.Meant.{meant}
use Rattle.ftl_scheduler.specs.outcomes.ConstraintRows.{AreUsable}
use Rattle.ftl_scheduler.proofs.finding.Targets.{lawful}
use Rattle.ftl_scheduler.proofs.finding.find.outcome_of.Goals as goal

pub find_outcome-requires : goal.find_outcome-requires
find_outcome-requires c = record {
  usable = subst (AreUsable c.in_ok-tables.tables c.in_ok-tables.all) (sym c.attribute_count.ensures.count)
      c.in_ok-tables.ensures.usable;
}

pub returns : goal.returns
returns c = record {
  outcome = c.find_outcome.ensures.outcome (meant c.args.checked.now)
      (lawful c.args.checked.now c.grammar.ensures.lawful c.grammar.ensures.kinds) c.in_ok-tables.ensures.tables
      c.in_ok-tables.ensures.computed;
}
