use Rattle.ftl_example.proofs.sizes.place_sizes.+writer_below.Given as goal

abbrev pub decreases-writer_below : goal.decreases-writer_below
decreases-writer_below l = l.children
