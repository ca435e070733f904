use Rattle.ftl_cursors.specs.items.ItemClasses.{AreFirstClasses}
use Rattle.ftl_cursors.specs.items.StageItems.{start_in}
use Rattle.ftl_cursors.proofs.items.classes.item_classes.Given as goal

abbrev pub invariant-loop-pass : goal.invariant-loop-pass
invariant-loop-pass l = AreFirstClasses l.items (start_in l.items l.pass) l.sets.items
