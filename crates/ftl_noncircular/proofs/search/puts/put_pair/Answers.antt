use Rattle.ftl_noncircular.proofs.search.PutLaws.{still_noted}
use Rattle.ftl_noncircular.proofs.search.puts.put_pair.Goals as goal

pub returns-else-put_edges-clause-searched : goal.returns-else-put_edges-clause-searched
returns-else-put_edges-clause-searched g c = record {
  walks = c.put_edges.ensures.walks;
  noted =
      still_noted g.g c.args.shape.now c.args.class c.args.walks.now c.put_edges.new.walks c.args.list.now.has
      c.requires.0
      c.requires.1.0 c.requires.1.1.1.0.walks c.put_edges.ensures.walks (c.put_edges.ensures.same c.if-put_edges.false)
      c.requires.1.1.1.0.noted;
}
