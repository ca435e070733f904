-- A schedule within its limits has no more stages than passes, and no stage of more than 4.
use Rattle.std.proofs.Common.{ℕ, zero, suc, ◌≤◌, [], ◌∷◌, length, get_or, arith}
use Rattle.std.specs.List.{All, sum_by}
use Rattle.std.proofs.lemmas.List.Elements.{All-head, All-tail}
use Rattle.std.proofs.lemmas.List.Sums.{sum_by-cons}
use Rattle.ftl_order.specs.orders.Schedule.{Schedule}
use Rattle.ftl_schedule.specs.stages.PassLimits.{HasFewPasses, IsWithinPassLimits}

pub stages_within : (s : Schedule) → All HasFewPasses s → length s ≤ sum_by length s
stages_within [] each = omega arith
stages_within (passes ∷ stages) each =
    let some = (All-head HasFewPasses passes stages each).some in
    let rest = stages_within stages (All-tail HasFewPasses passes stages each) in
    omega (arith, sum_by-cons length passes stages, some, rest)

pub few_stages : (s : Schedule) → IsWithinPassLimits s → length s ≤ 2048
few_stages s limits =
    let within = stages_within s limits.each in
    let all = limits.all in
    omega (arith, within, all)

pub few_at : (s : Schedule) → All HasFewPasses s → (stage : ℕ) → length (get_or s stage []) ≤ 4
few_at [] each zero = omega arith
few_at [] each (suc stage) = omega arith
few_at (passes ∷ stages) each zero = (All-head HasFewPasses passes stages each).few
few_at (passes ∷ stages) each (suc stage) = few_at stages (All-tail HasFewPasses passes stages each) stage

pub few_passes : (s : Schedule) → IsWithinPassLimits s → (stage : ℕ) → length (get_or s stage []) ≤ 4
few_passes s limits stage = few_at s limits.each stage
