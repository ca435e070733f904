use Rattle.std.proofs.Common.{◌≡◌, ◌<◌, ℕ, length}
use Rattle.ftl_noncircular.specs.search.Numbers.{vertex_count}
use Rattle.ftl_noncircular.specs.search.RuleEdges.{IsRuleEntered, rule_at}
use Rattle.ftl_noncircular.specs.search.Searches.{AreEdges}
use Rattle.ftl_noncircular.proofs.search.read_edges.read_edges.Given as goal

abbrev pub ghost-size : goal.ghost-size
ghost-size g a = g.g

abbrev pub ghost-add_rule : goal.ghost-add_rule
ghost-add_rule g a = g.g

abbrev pub invariant-loop-rule : goal.invariant-loop-rule
invariant-loop-rule g l = record {
  size : length l.edges ≡ vertex_count g.g l.class;
  edges : AreEdges g.g l.shape.places l.prevs l.class l.edges;
  entered :
      (r : ℕ) → r < l.rule → IsRuleEntered g.g l.shape.places l.prevs l.class l.edges (rule_at g.g r);
}
