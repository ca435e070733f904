use Rattle.ftl_example.proofs.trees.choices.+least_class.Given as goal

abbrev pub decreases-least_class : goal.decreases-least_class
decreases-least_class l = l.classes
