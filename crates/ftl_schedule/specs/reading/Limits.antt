-- How many passes a schedule may have, in all and in one stage.
use Rattle.std.specs.Prelude.{ℕ, ◌+◌, nat_lt, if◌then◌else◌, List, [], ◌∷◌, length, Option, Some, None}
use Rattle.ftl_model.specs.layout.Limits.{most_passes, most_stage_passes}
use Rattle.ftl_schedule.specs.declared.syntax.types.WrittenStage.{WrittenStage}
use Rattle.ftl_schedule.specs.declared.names.fault.ScheduleFault.{ScheduleFault}
use Rattle.ftl_schedule.specs.declared.names.fault.ScheduleFault.TheVariants.{TooManyBeside, TooManyPasses}

-- the passes of all stages
abbrev pub pass_count : List WrittenStage → ℕ
pass_count [] = 0
pass_count (s ∷ more) = length s.passes + pass_count more

-- the first stage with too many passes, where the first has this number
abbrev pub beside_fault : (stage : ℕ) → List WrittenStage → Option ScheduleFault
beside_fault n [] = None
beside_fault n (s ∷ more) =
    if nat_lt most_stage_passes (length s.passes) then Some (TooManyBeside n (length s.passes)) else beside_fault (n + 1) more

-- too many passes in all, or else that stage; stages are counted from 1
abbrev pub limit_fault : List WrittenStage → Option ScheduleFault
limit_fault stages =
    if nat_lt most_passes (pass_count stages) then Some (TooManyPasses (pass_count stages)) else beside_fault 1 stages
