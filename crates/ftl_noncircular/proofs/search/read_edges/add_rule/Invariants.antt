use Rattle.std.proofs.Common.{◌≡◌, ◌<◌, ℕ, get_or, length}
use Rattle.ftl_noncircular.specs.search.Circles.{vertex_at}
use Rattle.ftl_noncircular.specs.search.Pairs.{KeepsEntries}
use Rattle.ftl_noncircular.specs.search.RuleEdges.{IsEntered, no_read}
use Rattle.ftl_noncircular.specs.search.Searches.{AreEdges}
use Rattle.ftl_noncircular.proofs.search.read_edges.add_rule.Given as goal

abbrev pub ghost-add_read : goal.ghost-add_read
ghost-add_read g a = g.g

abbrev pub invariant-loop-read : goal.invariant-loop-read
invariant-loop-read g l = record {
  size : length l.edges ≡ length l.initial.edges;
  kept : KeepsEntries l.initial.edges l.edges;
  edges : AreEdges g.g l.shape.places l.prevs l.class l.edges;
  entered :
      (m : ℕ) → m < l.read-index
      → IsEntered l.shape.places l.prevs l.edges (get_or l.read-items m no_read) (vertex_at l.to.child l.to.attr);
}
