-- The schedule without nests that computes the values of one with nests.
use Rattle.std.specs.Prelude.{Bool, if◌then◌else◌}
use Rattle.std.specs.List.{list_any}
use Rattle.std.specs.Option.{is_some}
use Rattle.ftl_order.specs.orders.Schedule.{Schedule}
use Rattle.ftl_nests.specs.Flat.{flat_schedule}
use Rattle.ftl_nests.specs.Nests.{NestingPass, NestingSchedule, outer_schedule}

-- whether the pass nests a schedule
abbrev pub has_nest : NestingPass → Bool
has_nest pass = is_some pass.nest

-- whether some pass does
abbrev pub has_nests : NestingSchedule → Bool
has_nests s = list_any (list_any has_nest) s

-- the same stages where no pass nests a schedule; else each pass as stages of its own
abbrev pub without_nests : NestingSchedule → Schedule
without_nests s = if has_nests s then flat_schedule s else outer_schedule s
