use Rattle.std.proofs.Common.{slice_index_or}
use Rattle.std.specs.FinSet as set
use Rattle.ftl_scheduler.proofs.largest_sets.Marks.{IsAdding, lacking}
use Rattle.ftl_scheduler.proofs.largest_sets.Ordering.{may_come}
use Rattle.ftl_scheduler.proofs.largest_sets.largest_list.add_ready.Given as goal

abbrev pub invariant-loop-next : goal.invariant-loop-next
invariant-loop-next l =
    IsAdding (may_come l.constraints.earlier l.all l.placed) (slice_index_or l.constraints.followers l.attr set.empty) l.fn.ready l.ready
    l.seen

abbrev pub decreases-loop-next : goal.decreases-loop-next
decreases-loop-next l = lacking l.seen
