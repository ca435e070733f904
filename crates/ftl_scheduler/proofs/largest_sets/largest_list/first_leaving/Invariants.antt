use Rattle.ftl_scheduler.specs.largest_sets.Staying.{is_first}
use Rattle.ftl_scheduler.proofs.largest_sets.Marks.{IsMarked}
use Rattle.ftl_scheduler.proofs.largest_sets.largest_list.first_leaving.Given as goal

abbrev pub invariant-loop-attr : goal.invariant-loop-attr
invariant-loop-attr l = IsMarked (is_first l.constraints.late l.all l.done l.placed) l.first l.attr
