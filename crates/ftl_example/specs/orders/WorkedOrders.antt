-- The plain order of a column in a column, typed by hand.
use Rattle.std.specs.Prelude.{◌≡◌, [], ◌∷◌}
use Rattle.ftl_model.specs.layout.Path.{Path, down, top}
use Rattle.ftl_model.specs.layout.Solves.{instance_of}
use Rattle.ftl_model.specs.layout.Stack.{box_h, box_w, box_x, box_y, column, only_child, page_h, sheet, stack}
use Rattle.ftl_model.specs.layout.Tree.{Forest, none, tree}
use Rattle.ftl_order.specs.worked.WorkedSchedules.{heights_topdown}
use Rattle.ftl_example.specs.orders.PlainOrder.{plain_order}

-- a sheet with a column in a column
abbrev pub nested : Forest
nested = tree sheet 0 [] (tree column 0 [] (tree column 0 [] none none) none) none

-- the outer column and the inner one
abbrev pub outer : Path
outer = down only_child 0 top

abbrev pub inner : Path
inner = down only_child 0 outer

-- where heights are computed from the top, a column's comes before that of the column in it, which it reads
abbrev pub OrderOfNested : Type 0
OrderOfNested =
    plain_order stack heights_topdown nested
    ≡ instance_of inner box_w ∷ instance_of outer box_w ∷ instance_of outer box_h ∷ instance_of inner box_h
    ∷ instance_of top page_h ∷ instance_of outer box_x ∷ instance_of outer box_y ∷ instance_of inner box_x
    ∷ instance_of inner box_y ∷ []
