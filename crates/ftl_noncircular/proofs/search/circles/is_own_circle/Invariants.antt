use Rattle.ftl_noncircular.proofs.search.circles.is_own_circle.Given as goal

abbrev pub ghost-is_of_class : goal.ghost-is_of_class
ghost-is_of_class g a = g.g
