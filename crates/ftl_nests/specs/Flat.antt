-- A schedule with nests as one without: each pass becomes stages of its own, a nest's inner stages standing before a
-- bottomup list and after a topdown list.
use Rattle.std.specs.Prelude.{List, [], ◌∷◌, ◌++◌, map, flat_map, None}
use Rattle.ftl_order.specs.orders.Schedule.{PassKind, topdown, bottomup, inorder, Pass, Schedule}
use Rattle.ftl_nests.specs.Nests.{NestingPass, NestingSchedule, inner_stages}

-- each pass is the only one of its stage
abbrev pub alone_stage : List Pass → Schedule
alone_stage passes = map (λ pass. pass ∷ []) passes

-- so is each of a schedule
abbrev pub each_alone : Schedule → Schedule
each_alone s = flat_map alone_stage s

-- a pass's own list as the only pass of a stage
abbrev pub own_stage : NestingPass → Schedule
own_stage pass = (record { kind = pass.kind; attributes = pass.attributes } ∷ []) ∷ []

-- a pass of this kind as stages of its own
abbrev pub flat_by : PassKind → NestingPass → Schedule
flat_by topdown pass = own_stage pass ++ each_alone (inner_stages pass.nest)
flat_by bottomup pass = each_alone (inner_stages pass.nest) ++ own_stage pass
flat_by inorder pass = own_stage pass ++ each_alone (inner_stages pass.nest)

-- a pass as stages of its own
abbrev pub flat_pass : NestingPass → Schedule
flat_pass pass = flat_by pass.kind pass

-- the passes of a stage, so
abbrev pub flat_stage : List NestingPass → Schedule
flat_stage passes = flat_map flat_pass passes

-- the whole schedule
abbrev pub flat_schedule : NestingSchedule → Schedule
flat_schedule s = flat_map flat_stage s

-- ---- and one without nests as one that may have them

-- a pass that nests nothing
abbrev pub plain_pass : Pass → NestingPass
plain_pass pass = record { kind = pass.kind; attributes = pass.attributes; nest = None }

-- the passes of a stage, so
abbrev pub plain_stage : List Pass → List NestingPass
plain_stage passes = map plain_pass passes

-- the whole schedule
abbrev pub plain : Schedule → NestingSchedule
plain s = map plain_stage s
