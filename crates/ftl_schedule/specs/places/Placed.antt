-- Schedules in which no attribute has two entries.
use Rattle.std.specs.Prelude.{◌≡◌, ℕ, ◌<◌, List, [], ◌∷◌, slice_index_or, Option, Some, None, Result, Ok, Err}
use Rattle.ftl_order.specs.orders.Schedule.{entries}
use Rattle.ftl_order.specs.faults.FirstFault.{first_twice}
use Rattle.ftl_order.specs.declared.faults.fault.VerifyFault.{VerifyFault}
use Rattle.ftl_schedule.specs.stages.Stages.{stages_of}
use Rattle.ftl_schedule.specs.declared.stages.types.Schedule.{Schedule}
use Rattle.ftl_schedule.specs.places.Entries.{all_entries, entry_of}
use Rattle.ftl_schedule.specs.declared.places.entries.Entry.{Entry}
use Rattle.ftl_schedule.specs.declared.places.schedule_place.SchedulePlace.{SchedulePlace}

-- the schedule, or its fault where it has one
abbrev pub verdict : Option VerifyFault → Schedule → Result Schedule VerifyFault
verdict None s = Ok s
verdict (Some fault) s = Err fault

-- the schedule, or the first attribute that has a second entry
abbrev pub without_twice : Schedule → Result Schedule VerifyFault
without_twice s = verdict (first_twice [] (entries (stages_of s))) s

-- each number is below this one
abbrev pub AreBelow : ℕ → List ℕ → Type 0
AreBelow n [] = Unit {0}
AreBelow n (a ∷ more) = (a < n) × AreBelow n more

-- each attribute has the place of its first entry among these
abbrev pub HasPlaces : List Entry → List (Option SchedulePlace) → Type 0
HasPlaces these places = (a : ℕ) → slice_index_or places a None ≡ entry_of these a

-- no attribute has two entries, and each has the place of its entry
pub record IsPlaced (s : Schedule) (places : List (Option SchedulePlace)) : Type 0 where
  pub once : first_twice [] (entries (stages_of s)) ≡ None
  pub found : HasPlaces (all_entries s) places
