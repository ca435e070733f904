-- The entries of a schedule in the order of the text, each with its place.
use Rattle.std.specs.Prelude.{◌==◌, ℕ, ◌+◌, List, [], ◌∷◌, ◌++◌, map, if◌then◌else◌, Option, Some, None}
use Rattle.ftl_order.specs.orders.Schedule as order
use Rattle.ftl_schedule.specs.declared.syntax.kind.PassKind.{PassKind}
use Rattle.ftl_schedule.specs.stages.Stages.{kind_of}
use Rattle.ftl_schedule.specs.declared.stages.types.Pass.{Pass}
use Rattle.ftl_schedule.specs.declared.stages.types.Stage.{Stage}
use Rattle.ftl_schedule.specs.declared.stages.types.Schedule.{Schedule}
use Rattle.ftl_schedule.specs.declared.places.entries.Entry.{Entry}
use Rattle.ftl_schedule.specs.declared.places.schedule_place.SchedulePlace.{SchedulePlace}

-- the place of `ftl_order::orders` that a place stands for
abbrev pub schedule_place_meant : SchedulePlace → order.SchedulePlace
schedule_place_meant x = record { stage = x.stage; pass = x.pass; kind = kind_of x.kind; index = x.index }

-- an attribute at a place
abbrev pub entry : (stage pass : ℕ) → PassKind → (index attribute : ℕ) → Entry
entry stage pass kind index a =
    record { attr = a; schedule_place = record { stage = stage; pass = pass; kind = kind; index = index } }

-- the entries of a pass, from this place on
abbrev pub entries_from : (stage pass : ℕ) → PassKind → (index : ℕ) → List ℕ → List Entry
entries_from stage pass kind n [] = []
entries_from stage pass kind n (a ∷ attrs) = entry stage pass kind n a ∷ entries_from stage pass kind (n + 1) attrs

-- the entries of a pass
abbrev pub entries_of_pass : (stage pass : ℕ) → PassKind → List ℕ → List Entry
entries_of_pass stage pass kind attrs = entries_from stage pass kind 0 attrs

-- the entries of passes of a stage, of which the first has this number
abbrev pub passes_from : (stage pass : ℕ) → List Pass → List Entry
passes_from stage n [] = []
passes_from stage n (pass ∷ passes) =
    entries_of_pass stage n pass.kind pass.attrs ++ passes_from stage (n + 1) passes

-- the entries of a stage
abbrev pub entries_of_stage : (stage : ℕ) → List Pass → List Entry
entries_of_stage stage passes = passes_from stage 0 passes

-- the entries of stages, of which the first has this number
abbrev pub stages_from : (stage : ℕ) → List Stage → List Entry
stages_from n [] = []
stages_from n (stage ∷ stages) = entries_of_stage n stage.passes ++ stages_from (n + 1) stages

-- the entries of a schedule
abbrev pub all_entries : Schedule → List Entry
all_entries s = stages_from 0 s.stages

-- the place of the first entry of an attribute; none where it has none
abbrev pub entry_of : List Entry → (attribute : ℕ) → Option SchedulePlace
entry_of [] a = None
entry_of (e ∷ more) a = if a == e.attr then Some e.schedule_place else entry_of more a

-- the attributes of entries
abbrev pub attributes_of : List Entry → List ℕ
attributes_of these = map (λ (e : Entry). e.attr) these
