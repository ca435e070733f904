-- Schedules of rows and cells, with the first pair that the table with nests refuses, typed by hand: the rules are
-- those for a page's h, a row's h, a cell's rh and a cell's ph, from 0.
use Rattle.std.specs.Prelude.{◌≡◌, ℕ, None, Some}
use Rattle.ftl_order.specs.declared.faults.fault.VerifyFault.TheVariants.{Unordered}
use Rattle.ftl_nests.specs.Nests.{NestingSchedule, nest_placing_of}
use Rattle.ftl_nests.specs.WorkedRows.{rows}
use Rattle.ftl_regions.specs.pairs.NestReads.{first_refused}

-- no pair is refused
abbrev pub RefusesNone : NestingSchedule → Type 0
RefusesNone s = first_refused rows (nest_placing_of s) ≡ None

-- the first that is refused has this reader and this writer
abbrev pub RefusesFirst : NestingSchedule → (reader writer : ℕ) → Type 0
RefusesFirst s reader writer = first_refused rows (nest_placing_of s) ≡ Some (Unordered reader writer)
