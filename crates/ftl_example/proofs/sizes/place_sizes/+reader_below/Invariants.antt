use Rattle.ftl_example.proofs.sizes.place_sizes.+reader_below.Given as goal

abbrev pub decreases-reader_below : goal.decreases-reader_below
decreases-reader_below l = l.children
