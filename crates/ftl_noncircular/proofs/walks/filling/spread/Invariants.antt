use Rattle.std.proofs.Common.{◌-◌}
use Rattle.std.specs.FinSet as set
use Rattle.ftl_noncircular.proofs.walks.FilledRows.{IsFilling}
use Rattle.ftl_noncircular.proofs.walks.filling.spread.Given as goal

abbrev pub invariant-loop-next : goal.invariant-loop-next
invariant-loop-next l = IsFilling l.edges l.initial.row l.row l.done

abbrev pub decreases-loop-next : goal.decreases-loop-next
decreases-loop-next l = 2048 - set.len l.done
