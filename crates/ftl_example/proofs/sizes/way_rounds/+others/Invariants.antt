use Rattle.ftl_example.proofs.sizes.way_rounds.+others.Given as goal

abbrev pub decreases-others : goal.decreases-others
decreases-others l = l.children
