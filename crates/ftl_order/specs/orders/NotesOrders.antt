-- A schedule of the worked grammar of notes, and orders of the steps of a sheet without items.
use Rattle.std.specs.Prelude.{List, [], ◌∷◌}
use Rattle.ftl_model.specs.layout.Path.{down, top}
use Rattle.ftl_model.specs.layout.Solves.{Instance, instance_of}
use Rattle.ftl_order.specs.orders.Schedule.{Schedule, bottomup, topdown}

-- bottomup { Note.size Box.w Sheet.base Page.total } ; topdown { Note.shift Note.foot Box.x }
abbrev pub notes_schedule : Schedule
notes_schedule =
    (record { kind = bottomup; attributes = 5 ∷ 2 ∷ 7 ∷ 0 ∷ [] } ∷ [])
    ∷ (record { kind = topdown; attributes = 4 ∷ 6 ∷ 1 ∷ [] } ∷ []) ∷ []

-- size of the text; base and total of the sheet; shift and foot of the text
abbrev pub notes_order : List Instance
notes_order =
    instance_of (down 0 0 top) 5 ∷ instance_of top 7 ∷ instance_of top 0 ∷ instance_of (down 0 0 top) 4
    ∷ instance_of (down 0 0 top) 6 ∷ []

-- the size of the text is computed twice
abbrev pub size_twice : List Instance
size_twice = instance_of (down 0 0 top) 5 ∷ notes_order
