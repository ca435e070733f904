-- A schedule of two stages, typed by hand, and the nodes of a sheet over a column of two words.
use Rattle.std.specs.Prelude.{ℕ, List, [], ◌∷◌}
use Rattle.ftl_model.specs.layout.Path.{Path, down, top}
use Rattle.ftl_model.specs.layout.Stack.{box_h, box_w, box_x, box_y, only_child, page_h}
use Rattle.ftl_order.specs.orders.Schedule.{Pass, PassKind, Schedule, bottomup, inorder, topdown}

-- a pass of this kind with these attributes
abbrev pub pass : PassKind → List ℕ → Pass
pass kind attributes = record { kind = kind; attributes = attributes }

-- inorder { Page.h Box.h } ; topdown { Box.y Box.x } || bottomup { Box.w }
abbrev pub two_stages : Schedule
two_stages =
    (pass inorder (page_h ∷ (box_h ∷ [])) ∷ [])
    ∷ ((pass topdown (box_y ∷ (box_x ∷ [])) ∷ (pass bottomup (box_w ∷ []) ∷ [])) ∷ [])

-- the column
abbrev pub column_node : Path
column_node = down 0 0 top

-- its first word
abbrev pub first_word_node : Path
first_word_node = down only_child 0 column_node

-- its second word
abbrev pub second_word_node : Path
second_word_node = down only_child 1 column_node
