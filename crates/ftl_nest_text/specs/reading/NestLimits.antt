-- How many passes a schedule with nests may have, in all and in one stage. Outer and inner stages are numbered together,
-- from 1, in the order in which their first passes begin.
use Rattle.std.specs.Prelude.{ℕ, ◌+◌, nat_lt, if◌then◌else◌, List, [], ◌∷◌, length, map, flat_map, Option, Some, None}
use Rattle.ftl_model.specs.layout.Limits.{most_passes, most_stage_passes}
use Rattle.ftl_schedule.specs.declared.syntax.types.WrittenStage.{WrittenStage}
use Rattle.ftl_schedule.specs.declared.names.fault.ScheduleFault.{ScheduleFault}
use Rattle.ftl_schedule.specs.declared.names.fault.ScheduleFault.TheVariants.{TooManyBeside, TooManyPasses}
use Rattle.ftl_nest_text.specs.declared.syntax.types.WrittenNest.{WrittenNest}
use Rattle.ftl_nest_text.specs.declared.syntax.types.WrittenNestingPass.{WrittenNestingPass}
use Rattle.ftl_nest_text.specs.declared.syntax.types.WrittenNestingStage.{WrittenNestingStage}

-- the passes of stages of these sizes
abbrev pub pass_total : List ℕ → ℕ
pass_total [] = 0
pass_total (size ∷ more) = size + pass_total more

-- how many passes each inner stage of a nest has
abbrev pub inner_stage_sizes : List WrittenStage → List ℕ
inner_stage_sizes stages = map (λ (s : WrittenStage). length s.passes) stages

-- the same of a pass; none where it has no nest
abbrev pub nest_sizes : Option WrittenNest → List ℕ
nest_sizes None = []
nest_sizes (Some nest) = inner_stage_sizes nest.stages

-- the same of the inner stages of some passes
abbrev pub inner_sizes : List WrittenNestingPass → List ℕ
inner_sizes passes = flat_map (λ (p : WrittenNestingPass). nest_sizes p.nest) passes

-- how many passes each stage has, an outer stage its outer ones alone, in the order of the stages' numbers: an outer
-- stage begins with its first pass, then begin the inner stages of its passes, and then the next outer stage
abbrev pub stage_sizes : List WrittenNestingStage → List ℕ
stage_sizes stages = flat_map (λ (s : WrittenNestingStage). length s.passes ∷ inner_sizes s.passes) stages

-- the first stage with too many passes, where the first has this number
abbrev pub beside_in : (stage : ℕ) → List ℕ → Option ScheduleFault
beside_in n [] = None
beside_in n (size ∷ more) = if nat_lt most_stage_passes size then Some (TooManyBeside n size) else beside_in (n + 1) more

-- too many passes in all stages, inner ones too, or else the first stage that has too many beside each other
abbrev pub sizes_fault : List ℕ → Option ScheduleFault
sizes_fault sizes = if nat_lt most_passes (pass_total sizes) then Some (TooManyPasses (pass_total sizes)) else beside_in 1 sizes

-- the same of a schedule
abbrev pub nest_limit_fault : List WrittenNestingStage → Option ScheduleFault
nest_limit_fault stages = sizes_fault (stage_sizes stages)
