use Rattle.ftl_example.proofs.sizes.way_rounds.+ways_after.Given as goal

abbrev pub decreases-ways_after : goal.decreases-ways_after
decreases-ways_after l = l.rounds
