use Rattle.ftl_scheduler.proofs.largest_sets.Marks.{IsMarked}
use Rattle.ftl_scheduler.proofs.largest_sets.Ordering.{may_come}
use Rattle.ftl_scheduler.proofs.largest_sets.largest_list.ready_at_first.Given as goal

abbrev pub invariant-loop-attr : goal.invariant-loop-attr
invariant-loop-attr l = IsMarked (may_come l.constraints.earlier l.all l.placed) l.ready l.attr
