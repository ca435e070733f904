use Rattle.std.proofs.Common.{◌∙◌}
use Rattle.ftl_noncircular.proofs.search.PutLaws.{has_below_more}
use Rattle.ftl_noncircular.proofs.search.pair_edges.add_pair.Goals as goal

pub loop-child-preserved : goal.loop-child-preserved
loop-child-preserved g c = record {
  size = c.add_edge.ensures.size ∙ c.loop-child.invariant.size;
  kept = λ a b e. c.add_edge.ensures.kept a b (c.loop-child.invariant.kept a b e);
  put =
      has_below_more g.g c.args.shape.now c.loop-child.edges c.add_edge.new.edges c.args.class c.args.pair
      c.loop-child.child
      c.add_edge.ensures.kept c.loop-child.invariant.put (λ known same. c.add_edge.ensures.put same);
  reads = λ prevs has. c.add_edge.ensures.reads prevs (c.loop-child.invariant.reads prevs has);
}
