-- Schedules with nests of code and those of the definitions are the same.
use Rattle.std.proofs.Common.{◌≡◌, refl, sym, ap, ap₂, ◌∙◌, List, map, Option, Some, None}
use Rattle.std.specs.Option.{option_map}
use Rattle.ftl_order.specs.orders.Schedule as order
use Rattle.ftl_schedule.specs.declared.syntax.kind.PassKind.{PassKind}
use Rattle.ftl_schedule.specs.declared.stages.types.Schedule.{Schedule}
use Rattle.ftl_nests.specs.Nests as nests
use Rattle.ftl_nest_check.specs.declared.stages.types.Nest.{Nest}
use Rattle.ftl_nest_check.specs.declared.stages.types.NestingPass.{NestingPass}
use Rattle.ftl_nest_check.specs.declared.stages.types.NestingStage.{NestingStage}
use Rattle.ftl_nest_check.specs.declared.stages.types.NestingSchedule.{NestingSchedule}
use Rattle.ftl_nest_check.specs.stages.Nested.{nest_of, nesting_pass_of, nests_of}
use Rattle.ftl_answer.proofs.answers.StagesBack.{kind_back, kind_same, map_back, same_kind, same_schedule}
use Rattle.ftl_answer.proofs.answers.StagesBack.{schedule_back, schedule_same}

abbrev nest_back : nests.Nest → Nest
nest_back n = record { host = n.host; inner = schedule_back n.stages }

abbrev pass_back : nests.NestingPass → NestingPass
pass_back p = record { kind = kind_back p.kind; attrs = p.attributes; nest = option_map nest_back p.nest }

abbrev stage_back : List nests.NestingPass → NestingStage
stage_back passes = record { passes = map pass_back passes }

-- the schedule of code that stands for one
abbrev pub nests_back : nests.NestingSchedule → NestingSchedule
nests_back s = record { stages = map stage_back s }

-- ---- there and back

option_back : {X Y : Type 0} (f : X → Y) (b : Y → X) → ((y : Y) → f (b y) ≡ y) → (o : Option Y)
    → option_map f (option_map b o) ≡ o
option_back f b same None = refl
option_back f b same (Some y) = ap Some (same y)

same_nest : (n : nests.Nest) → nest_of (nest_back n) ≡ n
same_nest n = ap (λ (s : order.Schedule). record { host = n.host; stages = s }) (same_schedule n.stages)

nest_same : (n : Nest) → nest_back (nest_of n) ≡ n
nest_same n = ap (λ (s : Schedule). record { host = n.host; inner = s }) (schedule_same n.inner)

same_pass : (p : nests.NestingPass) → nesting_pass_of (pass_back p) ≡ p
same_pass p =
    ap₂ (λ (k : order.PassKind) (n : Option nests.Nest). record { kind = k; attributes = p.attributes; nest = n })
    (same_kind p.kind) (option_back nest_of nest_back same_nest p.nest)

pass_same : (p : NestingPass) → pass_back (nesting_pass_of p) ≡ p
pass_same p =
    ap₂ (λ (k : PassKind) (n : Option Nest). record { kind = k; attrs = p.attrs; nest = n })
    (kind_same p.kind) (option_back nest_back nest_of nest_same p.nest)

same_passes : (passes : List nests.NestingPass) → map nesting_pass_of (map pass_back passes) ≡ passes
same_passes passes = map_back nesting_pass_of pass_back same_pass passes

stage_same : (s : NestingStage) → stage_back (map nesting_pass_of s.passes) ≡ s
stage_same s =
    ap (λ (passes : List NestingPass). record { passes = passes })
    (map_back pass_back nesting_pass_of pass_same s.passes)

-- it stands for that schedule
pub same_nests : (s : nests.NestingSchedule) → nests_of (nests_back s) ≡ s
same_nests s = map_back (λ (stage : NestingStage). map nesting_pass_of stage.passes) stage_back same_passes s

nests_same : (s : NestingSchedule) → nests_back (nests_of s) ≡ s
nests_same s =
    ap (λ (stages : List NestingStage). record { stages = stages })
    (map_back stage_back (λ (stage : NestingStage). map nesting_pass_of stage.passes) stage_same s.stages)

-- two that stand for one are one
pub one_stands : (s t : NestingSchedule) → nests_of s ≡ nests_of t → s ≡ t
one_stands s t same = sym (nests_same s) ∙ (ap nests_back same ∙ nests_same t)
