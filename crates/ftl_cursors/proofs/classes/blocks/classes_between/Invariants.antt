use Rattle.ftl_cursors.specs.classes.ClassSets.{HasClassesBetween}
use Rattle.ftl_cursors.proofs.classes.blocks.classes_between.Given as goal

abbrev pub invariant-loop-node : goal.invariant-loop-node
invariant-loop-node l = HasClassesBetween l.set l.tree.tree l.first l.node
