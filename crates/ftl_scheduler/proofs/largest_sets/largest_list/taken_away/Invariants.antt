use Rattle.ftl_scheduler.proofs.largest_sets.Leaving.{IsLeaving}
use Rattle.ftl_scheduler.proofs.largest_sets.Marks.{lacking}
use Rattle.ftl_scheduler.proofs.largest_sets.largest_list.taken_away.Given as goal

abbrev pub invariant-loop-attr : goal.invariant-loop-attr
invariant-loop-attr l = IsLeaving l.constraints.users l.all l.done l.fn.first l.leaving l.taken

abbrev pub decreases-loop-attr : goal.decreases-loop-attr
decreases-loop-attr l = lacking l.taken
