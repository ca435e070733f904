use Rattle.std.proofs.Common.{◌+◌}
use Rattle.ftl_cursors.specs.items.ItemClasses.{AreFirstClasses}
use Rattle.ftl_cursors.specs.items.StageItems.{start_in}
use Rattle.ftl_cursors.proofs.items.classes.add_pass.Given as goal

abbrev pub invariant-loop-item : goal.invariant-loop-item
invariant-loop-item l = AreFirstClasses l.fn.items (start_in l.fn.items l.pass + l.item) l.sets.items
