use Rattle.std.proofs.Common.{◌≡◌, ◌≤◌, ◌+◌, drop}
use Rattle.ftl_schedule.specs.reading.Limits.{beside_fault, pass_count}
use Rattle.ftl_schedule.proofs.reading.limits.beside_fault.Given as goal

abbrev pub invariant-loop-number : goal.invariant-loop-number
invariant-loop-number l =
    (beside_fault (l.number + 1) (drop l.number l.stages) ≡ beside_fault 1 l.stages)
    × (pass_count (drop l.number l.stages) ≤ pass_count l.stages)
