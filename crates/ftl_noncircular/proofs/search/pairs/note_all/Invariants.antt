use Rattle.std.proofs.Common.{◌<◌, ℕ, get_or}
use Rattle.ftl_noncircular.specs.search.Pairs.{IsPairListOf, no_walks}
use Rattle.ftl_noncircular.specs.search.Searches.{AreNoted}
use Rattle.ftl_noncircular.proofs.search.pairs.note_all.Given as goal

abbrev pub ghost-note : goal.ghost-note
ghost-note g a = g.g

abbrev pub invariant-loop-class : goal.invariant-loop-class
invariant-loop-class g l = record {
  list : IsPairListOf g.g l.list;
  noted : (k : ℕ) → k < l.class → AreNoted g.g l.shape.places k (get_or l.classes k no_walks).edges l.list.has;
}
