use Rattle.ftl_noncircular.proofs.search.read_edges.add_read.Given as goal

abbrev pub ghost-number : goal.ghost-number
ghost-number g a = g.g
