use Rattle.std.proofs.Common.{◌≡◌, ◌+◌, ◌-◌, ◌<◌, length, take}
use Rattle.std.specs.List.{sum_by}
use Rattle.ftl_visit.proofs.rule_values.places.step_place.Given as goal

-- the operations that were passed have as many steps as were taken off
abbrev pub invariant-loop-op : goal.invariant-loop-op
invariant-loop-op l = (sum_by (λ n. n) (take l.op l.lengths) + l.kid ≡ l.step) × (l.op < length l.lengths)

abbrev pub decreases-loop-op : goal.decreases-loop-op
decreases-loop-op l = length l.lengths - l.op
