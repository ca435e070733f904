use Rattle.ftl_example.proofs.sizes.way_rounds.+best_way.Given as goal

abbrev pub decreases-best_way : goal.decreases-best_way
decreases-best_way l = l.classes
