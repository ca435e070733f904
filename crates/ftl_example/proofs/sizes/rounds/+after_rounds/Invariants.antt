use Rattle.ftl_example.proofs.sizes.rounds.+after_rounds.Given as goal

abbrev pub decreases-after_rounds : goal.decreases-after_rounds
decreases-after_rounds l = l.rounds
