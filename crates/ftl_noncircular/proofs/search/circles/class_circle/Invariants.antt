use Rattle.ftl_noncircular.proofs.search.circles.class_circle.Given as goal

abbrev pub ghost-add_pairs : goal.ghost-add_pairs
ghost-add_pairs g a = g.g

abbrev pub ghost-first_circle : goal.ghost-first_circle
ghost-first_circle g a = g.g
