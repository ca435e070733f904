use Rattle.ftl_scheduler.proofs.largest_sets.Ordering.{IsOrdering}
use Rattle.ftl_scheduler.proofs.largest_sets.Marks.{lacking}
use Rattle.ftl_scheduler.proofs.largest_sets.largest_list.order.Given as goal

abbrev pub invariant-loop-attr : goal.invariant-loop-attr
invariant-loop-attr l = IsOrdering l.constraints.earlier l.all l.fn.placed l.placed l.turns.items l.ready

abbrev pub decreases-loop-attr : goal.decreases-loop-attr
decreases-loop-attr l = lacking l.placed
