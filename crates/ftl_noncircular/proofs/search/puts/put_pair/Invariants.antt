use Rattle.ftl_noncircular.proofs.search.puts.put_pair.Given as goal

abbrev pub ghost-put_edges : goal.ghost-put_edges
ghost-put_edges g a = g.g

abbrev pub ghost-note : goal.ghost-note
ghost-note g a = g.g
