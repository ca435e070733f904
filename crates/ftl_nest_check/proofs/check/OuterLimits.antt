-- The outer schedule of one within the limits is within the limits.
use Rattle.std.proofs.Common.{◌≤◌, arith, List, [], ◌∷◌, length}
use Rattle.std.specs.List.{All, sum_by}
use Rattle.std.proofs.lemmas.List.{length-map}
use Rattle.std.proofs.lemmas.List.Elements.{All-cons, All-head, All-nil, All-tail}
use Rattle.std.proofs.lemmas.List.Sums.{sum_by-cons}
use Rattle.ftl_schedule.specs.stages.PassLimits.{HasFewPasses, IsWithinPassLimits}
use Rattle.ftl_nests.specs.Nests.{NestingPass, NestingSchedule, outer_schedule, whole_pass, whole_stage}
use Rattle.ftl_nest_check.specs.stages.Nested.{HasFewNestingPasses, IsWithinNestLimits, passes_with}

-- it has no more passes
stage_count : (passes : List NestingPass) → length passes ≤ sum_by passes_with passes
stage_count [] = omega arith
stage_count (pass ∷ passes) =
    let step = sum_by-cons passes_with pass passes in
    let rest = stage_count passes in
    omega (arith, step, rest)

outer_count : (s : NestingSchedule) → sum_by length (outer_schedule s) ≤ sum_by (sum_by passes_with) s
outer_count [] = omega arith
outer_count (passes ∷ s) =
    let step = sum_by-cons length (whole_stage passes) (outer_schedule s) in
    let whole = length-map passes whole_pass in
    let all = sum_by-cons (sum_by passes_with) passes s in
    omega (arith, step, whole, all, stage_count passes, outer_count s)

-- nor more beside each other
stage_few : (passes : List NestingPass) → HasFewNestingPasses passes → HasFewPasses (whole_stage passes)
stage_few passes has =
    let same = length-map passes whole_pass in
    let some = has.some in
    let few = has.few in
    record { some = omega (arith, some, same); few = omega (arith, few, same) }

outer_few : (s : NestingSchedule) → All HasFewNestingPasses s → All HasFewPasses (outer_schedule s)
outer_few [] all = All-nil HasFewPasses
outer_few (passes ∷ s) all =
    All-cons HasFewPasses (whole_stage passes) (outer_schedule s)
    (stage_few passes (All-head HasFewNestingPasses passes s all))
    (outer_few s (All-tail HasFewNestingPasses passes s all))

pub outer_limits : (s : NestingSchedule) → IsWithinNestLimits s → IsWithinPassLimits (outer_schedule s)
outer_limits s within =
    let all = within.all in
    record { all = omega (arith, all, outer_count s); each = outer_few s within.each }
