use Rattle.ftl_example.proofs.sizes.rounds.+best.Given as goal

abbrev pub decreases-best : goal.decreases-best
decreases-best l = l.classes
