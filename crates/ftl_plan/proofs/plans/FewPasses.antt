-- A schedule within its limits has few passes in each stage.
use Rattle.std.proofs.Common.{◌≤◌, ap, [], List, length, get_or, map, arith}
use Rattle.std.proofs.lemmas.List.{get_or-map, length-map}
use Rattle.std.proofs.lemmas.List.Elements.{All-from_get_or}
use Rattle.ftl_nests.specs.Nests.{NestingPass as Passing, outer_schedule}
use Rattle.ftl_nests.proofs.Sides.{outer_length}
use Rattle.ftl_nest_check.specs.stages.Nested.{IsWithinNestLimits, nesting_pass_of, nests_of}
use Rattle.ftl_nest_check.specs.declared.stages.types.NestingSchedule.{NestingSchedule}
use Rattle.ftl_nest_check.specs.declared.stages.types.NestingStage.{NestingStage}
use Rattle.ftl_nest_check.proofs.check.OuterLimits.{outer_limits}
use Rattle.ftl_schedule.proofs.stages.FewPasses as few
use Rattle.ftl_plan.specs.plans.PlannedStages.{HaveFewPasses}

abbrev pub no_stage : NestingStage
no_stage = record { passes = [] }

-- the passes of a stage, as they are meant
abbrev pub stage_of : NestingStage → List Passing
stage_of stage = map nesting_pass_of stage.passes

pub few_passes : (s : NestingSchedule) → IsWithinNestLimits (nests_of s) → HaveFewPasses s.stages
few_passes s limits =
    All-from_get_or (λ (stage : NestingStage). length stage.passes ≤ 2048) s.stages no_stage
    (λ i within.
    let here = few.few_passes (outer_schedule (nests_of s)) (outer_limits (nests_of s) limits) i in
    let outer = outer_length (nests_of s) i in
    let same = ap (λ (ps : List Passing). length ps) (get_or-map stage_of s.stages i no_stage [] within) in
    let count = length-map (get_or s.stages i no_stage).passes nesting_pass_of in
    omega (arith, here, outer, same, count))
