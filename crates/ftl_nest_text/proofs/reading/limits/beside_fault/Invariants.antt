use Rattle.std.proofs.Common.{◌≡◌, ◌≤◌, ◌+◌, drop}
use Rattle.ftl_nest_text.specs.reading.NestLimits.{beside_in, pass_total}
use Rattle.ftl_nest_text.proofs.reading.limits.beside_fault.Given as goal

abbrev pub invariant-loop-number : goal.invariant-loop-number
invariant-loop-number l =
    (beside_in (l.number + 1) (drop l.number l.sizes) ≡ beside_in 1 l.sizes)
    × (pass_total (drop l.number l.sizes) ≤ pass_total l.sizes)
