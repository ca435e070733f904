-- The first fault of a schedule with nests: an attribute with two entries, then a computed one without an entry, then a
-- read whose writer the schedule doesn't have earlier.
use Rattle.std.specs.Prelude.{◌≡◌, ◌↔◌, [], None, Option}
use Rattle.std.specs.Option.{option_or}
use Rattle.ftl_model.specs.layout.AttributeGrammar.{AttributeGrammar}
use Rattle.ftl_order.specs.orders.Lawful.{IsLawful}
use Rattle.ftl_order.specs.orders.Schedule.{entries}
use Rattle.ftl_order.specs.faults.FaultLaws.{AreComputed}
use Rattle.ftl_order.specs.faults.FirstFault.{first_missing, first_twice}
use Rattle.ftl_order.specs.declared.faults.fault.VerifyFault.{VerifyFault}
use Rattle.ftl_nests.specs.Nests.{IsNestOrdered, NestingSchedule, nest_placing_of, outer_schedule}
use Rattle.ftl_regions.specs.pairs.NestReads.{first_refused}
use Rattle.ftl_nest_check.specs.stages.Nested.{AreNestsKept}

-- the first fault where no attribute has two entries
abbrev pub later_nest_fault : AttributeGrammar → NestingSchedule → Option VerifyFault
later_nest_fault g s =
    option_or (first_missing g (entries (outer_schedule s))) (first_refused g (nest_placing_of s))

-- the first fault; entries are taken in the order of the text, a pass's own list before its nest
abbrev pub first_nest_fault : AttributeGrammar → NestingSchedule → Option VerifyFault
first_nest_fault g s = option_or (first_twice [] (entries (outer_schedule s))) (later_nest_fault g s)

-- a schedule of computed attributes that keeps the sides of its nests has no fault exactly where it is ordered
abbrev pub FaultlessIsNestOrdered : Type 0
FaultlessIsNestOrdered =
    (g : AttributeGrammar) (s : NestingSchedule) → IsLawful g → AreComputed g (outer_schedule s) → AreNestsKept g s
    → (first_nest_fault g s ≡ None) ↔ IsNestOrdered g s
