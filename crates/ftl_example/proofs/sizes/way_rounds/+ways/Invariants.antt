use Rattle.ftl_example.proofs.sizes.way_rounds.+ways.Given as goal

abbrev pub decreases-ways : goal.decreases-ways
decreases-ways l = l.children
