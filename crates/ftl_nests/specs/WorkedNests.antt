-- Schedules of the grammar of rows and cells that are accepted, and such that are refused; and grammars in which a nest
-- in each row isn't closed.
use Rattle.std.specs.Prelude.{◌==◌, if◌then◌else◌, [], ◌∷◌, Some}
use Rattle.ftl_model.specs.layout.AttributeGrammar.{AttributeGrammar, each_read, for_child, for_self, plain_part, self_read, with_part}
use Rattle.ftl_order.specs.orders.Pairs.{IsPair, Pair, child_class, same_class}
use Rattle.ftl_order.specs.orders.Ordered.{visit_place}
use Rattle.ftl_order.specs.orders.Schedule.{EachStandsOnce, Schedule, bottomup, topdown}
use Rattle.ftl_order.specs.worked.WorkedSchedules.{pair_of, pass, stage}
use Rattle.ftl_nests.specs.Nests.{EachPairNestOrdered, IsNestOrdered, IsNestOrderedRead, NestingSchedule, nest_placing_of, outer_schedule}
use Rattle.ftl_nests.specs.Flat.{plain_stage}
use Rattle.ftl_nests.specs.WorkedRows.{one_inner, pass_with, rows}

-- ---- accepted

-- bottomup { Slot.ph } ; topdown { Line.h } nest Row { topdown { Slot.rh } } ; bottomup { Page.h }
abbrev pub slots_first : NestingSchedule
slots_first =
    plain_stage (stage bottomup (2 ∷ []))
    ∷ ((pass_with topdown (1 ∷ []) (one_inner topdown (3 ∷ [])) ∷ []) ∷ (plain_stage (stage bottomup (0 ∷ [])) ∷ []))

-- bottomup { Slot.ph Line.h } ; topdown { Slot.rh }
abbrev pub heights_then_cells : Schedule
heights_then_cells = stage bottomup (2 ∷ 1 ∷ []) ∷ (stage topdown (3 ∷ []) ∷ [])

-- bottomup { Page.h } nest Sheet { bottomup { Slot.ph Line.h } ; topdown { Slot.rh } }
abbrev pub nested_in_sheet : NestingSchedule
nested_in_sheet =
    (record {
      kind = bottomup;
      attributes = 0 ∷ [];
      nest = Some (record { host = 0; stages = heights_then_cells });
    } ∷ []) ∷ []

-- ---- refused at a pair

-- the grammar has the pair, and the schedule doesn't order it
abbrev pub LeavesUnorderedWithNests : AttributeGrammar → NestingSchedule → Pair → Type 0
LeavesUnorderedWithNests g s pair =
    IsPair g pair
    × (IsNestOrderedRead (nest_placing_of s) pair.runs_at pair.read (visit_place g pair.writer)
    (visit_place g pair.reader) → ⊥)

-- a cell's rh reads its row's height
abbrev pub cell_reads_row : Pair
cell_reads_row = pair_of (for_child 1 0 3) plain_part (self_read 1) same_class (for_self 1 1)

-- a row's height reads its cells' ph
abbrev pub row_reads_cells : Pair
row_reads_cells = pair_of (for_self 1 1) with_part (each_read 0 2) child_class (for_self 2 2)

-- bottomup { Page.h Line.h } nest Row { bottomup { Slot.ph Slot.rh } }
abbrev pub rh_in_bottomup : NestingSchedule
rh_in_bottomup = (pass_with bottomup (0 ∷ 1 ∷ []) (one_inner bottomup (2 ∷ 3 ∷ [])) ∷ []) ∷ []

-- topdown { Line.h } nest Row { topdown { Slot.ph } } ; bottomup { Page.h } nest Row { topdown { Slot.rh } }
abbrev pub ph_in_topdown : NestingSchedule
ph_in_topdown =
    (pass_with topdown (1 ∷ []) (one_inner topdown (2 ∷ [])) ∷ [])
    ∷ ((pass_with bottomup (0 ∷ []) (one_inner topdown (3 ∷ [])) ∷ []) ∷ [])

-- ---- refused by the sides of a nest

-- each attribute stands once and each pair is ordered, and yet the schedule isn't
abbrev pub IsRefusedBySides : AttributeGrammar → NestingSchedule → Type 0
IsRefusedBySides g s =
    EachStandsOnce g (outer_schedule s) × EachPairNestOrdered g (nest_placing_of s) × (IsNestOrdered g s → ⊥)

-- a slot's attribute in the own list:
-- bottomup { Page.h Line.h Slot.ph } nest Row { } ; topdown { } nest Row { topdown { Slot.rh } }
abbrev pub slot_in_own_list : NestingSchedule
slot_in_own_list =
    (pass_with bottomup (0 ∷ 1 ∷ 2 ∷ []) [] ∷ []) ∷ ((pass_with topdown [] (one_inner topdown (3 ∷ [])) ∷ []) ∷ [])

-- a row's own attribute in its nest:
-- bottomup { Page.h } nest Row { bottomup { Slot.ph Line.h } } ; topdown { } nest Row { topdown { Slot.rh } }
abbrev pub line_in_nest : NestingSchedule
line_in_nest =
    (pass_with bottomup (0 ∷ []) (one_inner bottomup (2 ∷ 1 ∷ [])) ∷ [])
    ∷ ((pass_with topdown [] (one_inner topdown (3 ∷ [])) ∷ []) ∷ [])

-- ---- two inner passes beside each other

-- of no ordered schedule, for the order in which they stand in a host's visit:
-- bottomup { Line.h } nest Row { bottomup { Slot.ph } || topdown { Slot.rh } }
abbrev pub passes_beside : NestingSchedule
passes_beside = (pass_with bottomup (1 ∷ []) ((pass bottomup (2 ∷ []) ∷ (pass topdown (3 ∷ []) ∷ [])) ∷ []) ∷ []) ∷ []

-- ---- nests that aren't closed

-- a row's children are rows, and no other class has a child
abbrev pub rows_in_rows : AttributeGrammar
rows_in_rows = record rows { child_count = λ class. if class == 1 then 1 else 0; child_interface = λ class child. 1 }

-- the root is a cell
abbrev pub cell_at_root : AttributeGrammar
cell_at_root = record rows { root = 2 }

-- a sheet's children are cells, as a row's are
abbrev pub cells_in_sheets : AttributeGrammar
cells_in_sheets = record rows { child_interface = λ class child. 2 }
