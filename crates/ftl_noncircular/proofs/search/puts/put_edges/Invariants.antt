use Rattle.std.proofs.Common.{◌≡◌, false}
use Rattle.ftl_noncircular.specs.walks.WalkTables.{LeadNoFurther}
use Rattle.ftl_noncircular.specs.search.Pairs.{AreWalksOf, HasPairBelow, KeepsEntries}
use Rattle.ftl_noncircular.proofs.search.puts.put_edges.Given as goal

abbrev pub ghost-put_edge : goal.ghost-put_edge
ghost-put_edge g a = g.g

abbrev pub invariant-loop-child : goal.invariant-loop-child
invariant-loop-child g l = record {
  walks : AreWalksOf g.g l.shape l.class l.walks;
  kept : KeepsEntries l.initial.walks.edges l.walks.edges;
  put : HasPairBelow g.g l.shape l.walks.edges l.class l.pair l.child;
  same : l.grown ≡ false → LeadNoFurther l.initial.walks l.walks;
}
