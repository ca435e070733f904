use Rattle.ftl_noncircular.specs.search.Pairs.{AreWalksOf, no_walks}
use Rattle.ftl_noncircular.specs.search.Tables.{IsTable}
use Rattle.ftl_noncircular.proofs.search.class_walks.class_walks.Given as goal

abbrev pub ghost-read_edges : goal.ghost-read_edges
ghost-read_edges g a = g.g

abbrev pub ghost-starts_of : goal.ghost-starts_of
ghost-starts_of g a = g.g

abbrev pub invariant-loop-class : goal.invariant-loop-class
invariant-loop-class g l = IsTable (AreWalksOf g.g l.shape) no_walks l.class l.classes.items
