-- Schedules of rows and cells with their first faults, typed by hand. The attributes are a page's h 0, a line's h 1, a
-- cell's ph 2 and rh 3; the rules are those for a page's h, a row's h, a cell's rh and a cell's ph, from 0.
use Rattle.std.specs.Prelude.{◌≡◌, [], ◌∷◌, None, Some}
use Rattle.ftl_order.specs.orders.Schedule.{bottomup, topdown}
use Rattle.ftl_order.specs.declared.faults.fault.VerifyFault.{VerifyFault}
use Rattle.ftl_nests.specs.Nests.{NestingSchedule}
use Rattle.ftl_nests.specs.WorkedRows.{one_inner, pass_with, rows}
use Rattle.ftl_nest_check.specs.check.NestFault.{first_nest_fault}

-- there is no fault
abbrev pub HasNoFault : NestingSchedule → Type 0
HasNoFault s = first_nest_fault rows s ≡ None

-- this is the first
abbrev pub HasFault : NestingSchedule → VerifyFault → Type 0
HasFault s fault = first_nest_fault rows s ≡ Some fault

-- bottomup { Page.h Line.h } nest Row { bottomup { Slot.ph } } ; topdown { Slot.ph } nest Row { topdown { Line.h } }
abbrev pub two_twice : NestingSchedule
two_twice =
    (pass_with bottomup (0 ∷ 1 ∷ []) (one_inner bottomup (2 ∷ [])) ∷ [])
    ∷ ((pass_with topdown (2 ∷ []) (one_inner topdown (1 ∷ [])) ∷ []) ∷ [])

-- bottomup { Page.h Line.h } nest Row { bottomup { Slot.ph } }
abbrev pub no_cell_height : NestingSchedule
no_cell_height = (pass_with bottomup (0 ∷ 1 ∷ []) (one_inner bottomup (2 ∷ [])) ∷ []) ∷ []

-- topdown { Page.h Line.h } nest Row { bottomup { Slot.ph } }
abbrev pub missing_and_unordered : NestingSchedule
missing_and_unordered = (pass_with topdown (0 ∷ 1 ∷ []) (one_inner bottomup (2 ∷ [])) ∷ []) ∷ []
