use Rattle.std.proofs.Common.{◌<◌, ℕ, get_or}
use Rattle.ftl_noncircular.specs.search.Pairs.{AreSearchedTo, HasPair, IsLonger, no_walks}
use Rattle.ftl_noncircular.proofs.search.pairs.put_everywhere.Given as goal

abbrev pub ghost-put_pair : goal.ghost-put_pair
ghost-put_pair g a = g.g

abbrev pub invariant-loop-class : goal.invariant-loop-class
invariant-loop-class g l = record {
  searched : AreSearchedTo g.g l.shape l.classes l.list l.next;
  longer : IsLonger l.initial.list l.list;
  put : (k : ℕ) → k < l.class → HasPair g.g l.shape (get_or l.classes k no_walks).edges k l.pair;
}
