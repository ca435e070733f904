use Rattle.ftl_example.proofs.sizes.place_sizes.+singles_below.Given as goal

abbrev pub decreases-singles_below : goal.decreases-singles_below
decreases-singles_below l = l.children
