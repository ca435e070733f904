use Rattle.std.proofs.Common.{◌&&◌, not}
use Rattle.std.specs.FinSet as set
use Rattle.ftl_scheduler.specs.outcomes.Outcomes.{Passes}
use Rattle.ftl_scheduler.proofs.outcomes.outcome.left_of.Given as goal

abbrev pub invariant-loop-attr : goal.invariant-loop-attr
invariant-loop-attr l = Passes (λ a. set.contains l.all a && not (set.contains l.taken a)) l.attr l.left.items
