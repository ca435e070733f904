use Rattle.ftl_example.proofs.trees.choices.+way_child.Given as goal

abbrev pub decreases-way_child : goal.decreases-way_child
decreases-way_child l = l.children
