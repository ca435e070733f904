-- Schedules with nests in which no attribute has two entries, and the entries of their nests.
use Rattle.std.specs.Prelude.{◌≡◌, ℕ, nat_lt, if◌then◌else◌, List, [], length, map, slice_index_or, Option, Some, None}
use Rattle.std.specs.Prelude.{Result, Ok, Err}
use Rattle.ftl_order.specs.orders.Schedule.{entries}
use Rattle.ftl_order.specs.faults.FirstFault.{first_twice}
use Rattle.ftl_order.specs.declared.faults.fault.VerifyFault.{VerifyFault}
use Rattle.ftl_schedule.specs.places.Entries.{all_entries}
use Rattle.ftl_schedule.specs.stages.Stages.{stages_of}
use Rattle.ftl_schedule.specs.declared.places.entries.Entry.{Entry}
use Rattle.ftl_schedule.specs.declared.places.schedule_place.SchedulePlace.{SchedulePlace}
use Rattle.ftl_schedule.specs.declared.syntax.kind.PassKind.TheVariants.{TopDown}
use Rattle.ftl_schedule.specs.declared.stages.types.Schedule.{Schedule}
use Rattle.ftl_nests.specs.Nests as nests
use Rattle.ftl_nests.specs.Nests.{host_of, outer_schedule}
use Rattle.ftl_nest_check.specs.stages.Nested.{nests_of}
use Rattle.ftl_nest_check.specs.declared.places.inner.StageEntries.{StageEntries}
use Rattle.ftl_nest_check.specs.declared.stages.types.Nest.{Nest}
use Rattle.ftl_nest_check.specs.declared.stages.types.NestingPass.{NestingPass}
use Rattle.ftl_nest_check.specs.declared.stages.types.NestingStage.{NestingStage}
use Rattle.ftl_nest_check.specs.declared.stages.types.NestingSchedule.{NestingSchedule}

-- the schedule, or its fault where it has one
abbrev pub verdict_on : Option VerifyFault → NestingSchedule → Result NestingSchedule VerifyFault
verdict_on None s = Ok s
verdict_on (Some fault) s = Err fault

-- the schedule, or the first attribute that has a second entry
abbrev pub without_twice : NestingSchedule → Result NestingSchedule VerifyFault
without_twice s = verdict_on (first_twice [] (entries (outer_schedule (nests_of s)))) s

-- the entries of a nest, each at its place in it; none where there is no nest
abbrev pub entries_in : Option Nest → List Entry
entries_in None = []
entries_in (Some nest) = all_entries nest.inner

-- those of each pass of a stage
abbrev pub stage_entries : NestingStage → StageEntries
stage_entries stage = record { passes = map (λ (pass : NestingPass). entries_in pass.nest) stage.passes }

-- and of each stage
abbrev pub inner_entries : NestingSchedule → List StageEntries
inner_entries s = map stage_entries s.stages

-- the outer schedule in which no attribute has two entries, and the entries of the nests
pub record AreNestPlaces (s : NestingSchedule) (outer : Schedule) (inner : List StageEntries) : Type 0 where
  pub outer_is : stages_of outer ≡ outer_schedule (nests_of s)
  pub inner_is : inner ≡ inner_entries s

-- ---- by number

-- the host class of the nest of a pass, for a place behind its own list
abbrev pub host_behind : nests.NestingPass → (index : ℕ) → Option ℕ
host_behind pass n = if nat_lt n (length pass.attributes) then None else host_of pass.nest

-- the first place
abbrev pub first_place : SchedulePlace
first_place = record { stage = 0; pass = 0; kind = TopDown; index = 0 }

-- an entry at the first place
abbrev pub no_entry : Entry
no_entry = record { attr = 0; schedule_place = first_place }

-- the place of an entry by its number, in the entries of a pass, of a stage, and of all
abbrev pub place_in_entries : List Entry → (number : ℕ) → SchedulePlace
place_in_entries these n = (slice_index_or these n no_entry).schedule_place

abbrev pub place_in_passes : List (List Entry) → (pass number : ℕ) → SchedulePlace
place_in_passes passes m n = place_in_entries (slice_index_or passes m []) n

abbrev pub place_in_stages : List StageEntries → (stage pass number : ℕ) → SchedulePlace
place_in_stages stages l m n = place_in_passes (slice_index_or stages l (record { passes = [] })).passes m n
