use Rattle.ftl_example.proofs.trees.choices.+way_class.Given as goal

abbrev pub decreases-way_class : goal.decreases-way_class
decreases-way_class l = l.classes
