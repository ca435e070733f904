use Rattle.ftl_noncircular.proofs.search.searching.circle_in.Given as goal

abbrev pub ghost-read_edges : goal.ghost-read_edges
ghost-read_edges g a = g.g

abbrev pub ghost-class_circle : goal.ghost-class_circle
ghost-class_circle g a = g.g
