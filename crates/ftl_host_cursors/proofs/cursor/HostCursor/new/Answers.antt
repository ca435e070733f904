use Rattle.std.proofs.Common.{sym, subst}
use Rattle.ftl_cursors.specs.visits.VisitSteps.{AreVisits}
use Rattle.ftl_host_cursors.specs.HostPlaces.{grammar_of}
use Rattle.ftl_host_cursors.proofs.cursor.HostCursor.new.Goals as goal

pub new-none-requires-clause-visits : goal.new-none-requires-clause-visits
new-none-requires-clause-visits c =
    let x = c.args.tables in
    subst (AreVisits (grammar_of x)) (sym c.requires.tables.visits)
    (c.visits_make_steps.ensures.visits (grammar_of x) c.requires.tables.law x.pass.now.kind c.requires.tables.kind
    x.pass.now.attrs)
