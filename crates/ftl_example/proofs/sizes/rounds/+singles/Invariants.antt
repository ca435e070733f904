use Rattle.ftl_example.proofs.sizes.rounds.+singles.Given as goal

abbrev pub decreases-singles : goal.decreases-singles
decreases-singles l = l.children
