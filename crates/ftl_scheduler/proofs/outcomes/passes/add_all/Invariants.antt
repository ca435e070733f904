use Rattle.std.proofs.Common.{take}
use Rattle.ftl_scheduler.proofs.outcomes.PassChains.{IsAdded}
use Rattle.ftl_scheduler.proofs.outcomes.passes.add_all.Given as goal

abbrev pub invariant-loop-attr : goal.invariant-loop-attr
invariant-loop-attr l = IsAdded l.fn.row (take l.attr-index l.attrs) l.row
