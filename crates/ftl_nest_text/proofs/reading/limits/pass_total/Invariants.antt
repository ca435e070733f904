use Rattle.std.proofs.Common.{◌≡◌, ◌+◌, drop}
use Rattle.ftl_nest_text.specs.reading.NestLimits.{pass_total}
use Rattle.ftl_nest_text.proofs.reading.limits.pass_total.Given as goal

abbrev pub invariant-loop-size : goal.invariant-loop-size
invariant-loop-size l = l.count + pass_total (drop l.size-index l.sizes) ≡ pass_total l.sizes
