use Rattle.std.proofs.Common.{◌∙◌, sym}
use Rattle.ftl_noncircular.proofs.search.PutLaws.{further_on, has_below_more}
use Rattle.ftl_noncircular.proofs.search.StateLaws.{or_none}
use Rattle.ftl_noncircular.proofs.search.puts.put_edges.Goals as goal

pub loop-child-preserved : goal.loop-child-preserved
loop-child-preserved g c = record {
  walks = c.put_edge-grown.ensures.walks;
  kept = λ a b e. c.put_edge-grown.ensures.kept a b (c.loop-child.invariant.kept a b e);
  put =
      has_below_more g.g c.args.shape.now c.loop-child.walks.edges c.put_edge-grown.new.walks.edges c.args.class
      c.args.pair
      c.loop-child.child c.put_edge-grown.ensures.kept c.loop-child.invariant.put
      (λ known same. c.put_edge-grown.ensures.put same);
  same = λ e.
      let parts = or_none c.loop-child.grown c.put_edge-grown.result e in
      further_on c.args.walks.now c.loop-child.walks c.put_edge-grown.new.walks
      (c.loop-child.invariant.walks.starts.count ∙ sym c.requires.1.1.1.starts.count)
      (c.loop-child.invariant.same parts.0) (c.put_edge-grown.ensures.same parts.1);
}
