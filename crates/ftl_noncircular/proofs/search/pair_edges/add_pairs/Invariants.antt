use Rattle.std.proofs.Common.{◌≡◌, ◌<◌, ℕ, Bool, length}
use Rattle.ftl_noncircular.specs.search.Numbers.{vertex_count}
use Rattle.ftl_noncircular.specs.search.Pairs.{HasPair, pair_at}
use Rattle.ftl_noncircular.specs.search.Searches.{HasReads}
use Rattle.ftl_noncircular.proofs.search.pair_edges.add_pairs.Given as goal

abbrev pub ghost-add_pair : goal.ghost-add_pair
ghost-add_pair g a = g.g

abbrev pub invariant-loop-pair : goal.invariant-loop-pair
invariant-loop-pair g l = record {
  size : length l.edges ≡ vertex_count g.g l.class;
  put : (j : ℕ) → j < l.pair-index → HasPair g.g l.shape l.edges l.class (pair_at l.list.pairs.items j);
  reads :
      (prevs : Bool) → HasReads g.g l.shape.places prevs l.class l.initial.edges
      → HasReads g.g l.shape.places prevs l.class l.edges;
}
