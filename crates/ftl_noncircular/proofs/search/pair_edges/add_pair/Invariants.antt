use Rattle.std.proofs.Common.{◌≡◌, Bool, length}
use Rattle.ftl_noncircular.specs.search.Pairs.{HasPairBelow, KeepsEntries}
use Rattle.ftl_noncircular.specs.search.Searches.{HasReads}
use Rattle.ftl_noncircular.proofs.search.pair_edges.add_pair.Given as goal

abbrev pub ghost-add_edge : goal.ghost-add_edge
ghost-add_edge g a = g.g

abbrev pub invariant-loop-child : goal.invariant-loop-child
invariant-loop-child g l = record {
  size : length l.edges ≡ length l.initial.edges;
  kept : KeepsEntries l.initial.edges l.edges;
  put : HasPairBelow g.g l.shape l.edges l.class l.pair l.child;
  reads :
      (prevs : Bool) → HasReads g.g l.shape.places prevs l.class l.initial.edges
      → HasReads g.g l.shape.places prevs l.class l.edges;
}
