use Rattle.std.proofs.Common.{take}
use Rattle.ftl_showing.specs.lines.Whys.{AreNumbersOn}
use Rattle.ftl_showing.proofs.lines.walk.first_overflow.Given as goal

-- those so far are numbers
abbrev pub invariant-loop-instance : goal.invariant-loop-instance
invariant-loop-instance l = AreNumbersOn l.page (take l.instance-index l.instances)
