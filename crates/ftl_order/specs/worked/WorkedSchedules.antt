-- Worked schedules, written out by hand, to hold the definitions against.
use Rattle.std.specs.Prelude.{ℕ, ◌==◌, if◌then◌else◌, List, [], ◌∷◌}
use Rattle.ftl_model.specs.layout.AttributeGrammar.{AttributeGrammar, Part, Read, RuleName, each_read, first_part, for_child}
use Rattle.ftl_model.specs.layout.AttributeGrammar.{for_self, plain_part, prev_read, self_read, single_read, then_part}
use Rattle.ftl_model.specs.layout.AttributeGrammar.{with_part}
use Rattle.ftl_model.specs.layout.Stack.{body_origin, box_h, box_w, box_x, box_y, column, kids_x, only_child, page_h, sheet}
use Rattle.ftl_model.specs.layout.Stack.{stack, word}
use Rattle.ftl_order.specs.orders.Ordered.{IsOrderedPair}
use Rattle.ftl_order.specs.orders.Pairs.{IsPair, Pair, Where, child_class, parent_class, same_class}
use Rattle.ftl_order.specs.orders.Schedule.{Pass, PassKind, Schedule, bottomup, placing_of, topdown}

-- a pass of this kind with these attributes
abbrev pub pass : PassKind → List ℕ → Pass
pass kind attributes = record { kind = kind; attributes = attributes }

-- a stage of one pass
abbrev pub stage : PassKind → List ℕ → List Pass
stage kind attributes = pass kind attributes ∷ []

-- bottomup { Page.h Box.w Box.h } ; topdown { Box.x Box.y }
abbrev pub sizes_then_places : Schedule
sizes_then_places = stage bottomup (page_h ∷ (box_w ∷ (box_h ∷ []))) ∷ (stage topdown (box_x ∷ (box_y ∷ [])) ∷ [])

-- bottomup { Page.h Box.w Box.h } ; topdown { Box.x } || topdown { Box.y }
abbrev pub places_beside : Schedule
places_beside =
    stage bottomup (page_h ∷ (box_w ∷ (box_h ∷ [])))
    ∷ ((pass topdown (box_x ∷ []) ∷ (pass topdown (box_y ∷ []) ∷ [])) ∷ [])

-- bottomup { Box.w } ; topdown { Box.h } ; bottomup { Page.h } ; topdown { Box.x Box.y }
abbrev pub heights_topdown : Schedule
heights_topdown =
    stage bottomup (box_w ∷ [])
    ∷ (stage topdown (box_h ∷ []) ∷ (stage bottomup (page_h ∷ []) ∷ (stage topdown (box_x ∷ (box_y ∷ [])) ∷ [])))

-- bottomup { Page.h Box.w Box.h Box.w } ; topdown { Box.x }
abbrev pub width_twice : Schedule
width_twice = stage bottomup (page_h ∷ (box_w ∷ (box_h ∷ (box_w ∷ [])))) ∷ (stage topdown (box_x ∷ []) ∷ [])

-- bottomup { Page.h Box.w Box.h } ; topdown { Box.x }
abbrev pub y_missing : Schedule
y_missing = stage bottomup (page_h ∷ (box_w ∷ (box_h ∷ []))) ∷ (stage topdown (box_x ∷ []) ∷ [])

-- topdown { Box.x Box.y } ; bottomup { Page.h Box.w Box.h }
abbrev pub places_first : Schedule
places_first = stage topdown (box_x ∷ (box_y ∷ [])) ∷ (stage bottomup (page_h ∷ (box_w ∷ (box_h ∷ []))) ∷ [])

-- a pair of these parts
abbrev pub pair_of : RuleName → Part → Read → Where → RuleName → Pair
pair_of reader part read runs_at writer =
    record { reader = reader; part = part; read = read; writer = writer; runs_at = runs_at }

-- Sheet self.h reads Column self.h, by body.h
abbrev pub sheet_reads_height : RuleName → Pair
sheet_reads_height = pair_of (for_self sheet page_h) plain_part (single_read only_child box_h) child_class

-- Column self.h reads Column self.h, by this.h in the fold
abbrev pub column_reads_height : RuleName → Pair
column_reads_height = pair_of (for_self column box_h) with_part (each_read only_child box_h) child_class

-- Column self.w reads Column self.w, by this.w in the fold
abbrev pub column_reads_width : RuleName → Pair
column_reads_width = pair_of (for_self column box_w) with_part (each_read only_child box_w) child_class

-- Column kids.x reads self.x
abbrev pub kids_read_x : RuleName → Pair
kids_read_x = pair_of (for_child column only_child box_x) plain_part (self_read box_x) parent_class

-- Column kids.y reads self.y, and then prev.y + prev.h
abbrev pub kids_read_y : RuleName → Pair
kids_read_y = pair_of (for_child column only_child box_y) first_part (self_read box_y) parent_class

-- Column kids.y reads itself, by prev.y
abbrev pub kids_read_prev_y : Pair
kids_read_prev_y =
    pair_of (for_child column only_child box_y) then_part (prev_read only_child box_y) same_class
    (for_child column only_child box_y)

-- Column kids.y reads self.h of a kid, by prev.h
abbrev pub kids_read_prev_h : RuleName → Pair
kids_read_prev_h = pair_of (for_child column only_child box_y) then_part (prev_read only_child box_h) child_class

-- all pairs of the stack grammar
abbrev pub stack_pairs : List Pair
stack_pairs =
    sheet_reads_height (for_self column box_h) ∷ sheet_reads_height (for_self word box_h)
    ∷ column_reads_width (for_self column box_w) ∷ column_reads_width (for_self word box_w)
    ∷ column_reads_height (for_self column box_h) ∷ column_reads_height (for_self word box_h)
    ∷ kids_read_x (for_child sheet only_child box_x) ∷ kids_read_x (for_child column only_child box_x)
    ∷ kids_read_y (for_child sheet only_child box_y) ∷ kids_read_y (for_child column only_child box_y)
    ∷ kids_read_prev_y ∷ kids_read_prev_h (for_self column box_h) ∷ kids_read_prev_h (for_self word box_h) ∷ []

-- the stack grammar with kids.y := self.x
abbrev pub slanted : AttributeGrammar
slanted = record stack { child_rule = λ class child a. if class == sheet then body_origin else kids_x }

-- Column kids.y reads Sheet body.x
abbrev pub slanted_pair : Pair
slanted_pair =
    pair_of (for_child column only_child box_y) plain_part (self_read box_x) parent_class
    (for_child sheet only_child box_x)

-- a pair that the schedule orders, and one that it does not
abbrev pub Orders : AttributeGrammar → Schedule → Pair → Type 0
Orders g s pair = IsPair g pair × IsOrderedPair g (placing_of s) pair

-- a pair that the schedule does not order
abbrev pub LeavesUnordered : AttributeGrammar → Schedule → Pair → Type 0
LeavesUnordered g s pair = IsPair g pair × (IsOrderedPair g (placing_of s) pair → ⊥)
