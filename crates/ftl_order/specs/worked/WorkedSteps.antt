-- The steps of a worked page, and which must come before which.
use Rattle.std.specs.Prelude.{ℕ, List, [], ◌∷◌}
use Rattle.ftl_model.specs.layout.Path.{Path, down, top}
use Rattle.ftl_model.specs.layout.Solves.{Instance, instance_of}
use Rattle.ftl_model.specs.layout.Stack.{box_h, box_w, box_x, box_y, page_h, stack}
use Rattle.ftl_model.specs.layout.Values.{Value}
use Rattle.ftl_model.specs.layout.Worked.{numbers, two_words}
use Rattle.ftl_order.specs.orders.LegalOrder.{MustPrecede}
use Rattle.ftl_order.specs.orders.Schedule.{Schedule}

-- the nodes of a sheet with a column of two words
abbrev pub the_sheet : Path
the_sheet = top

-- its body
abbrev pub the_column : Path
the_column = down 0 0 top

-- the column's first kid
abbrev pub first_word : Path
first_word = down 0 0 the_column

-- and its second
abbrev pub second_word : Path
second_word = down 0 1 the_column

-- a step, and one that is to come later
pub record TwoSteps : Type 0 where
  pub earlier : Instance
  pub later : Instance

-- two attributes of two nodes
abbrev pub steps : Path → ℕ → Path → ℕ → TwoSteps
steps p a q b = record { earlier = instance_of p a; later = instance_of q b }

-- the first must precede the second
abbrev pub MustBe : Schedule → TwoSteps → Type 0
MustBe s two = MustPrecede stack two_words s two.earlier two.later

-- neither must come before the other
abbrev pub IsFree : Schedule → TwoSteps → Type 0
IsFree s two =
    (MustPrecede stack two_words s two.earlier two.later → ⊥)
    × (MustPrecede stack two_words s two.later two.earlier → ⊥)

-- under bottomup { Page.h Box.w Box.h } ; topdown { Box.x Box.y }
abbrev pub in_order : List TwoSteps
in_order =
    -- below, and further below
    steps first_word box_h the_column box_h
    ∷ (steps second_word box_w the_sheet page_h
    -- in one visit, by key
    ∷ (steps the_column box_w the_column box_h
    -- in an earlier stage
    ∷ (steps the_sheet page_h the_column box_x
    -- in the visit above, and further above
    ∷ (steps the_column box_x first_word box_y
    -- of one rule, for an earlier kid
    ∷ (steps first_word box_y second_word box_y
    -- by key before kids
    ∷ (steps second_word box_x first_word box_y
    ∷ []))))))

-- steps of two words are free
abbrev pub in_no_order : List TwoSteps
in_no_order = steps first_word box_h second_word box_h ∷ (steps first_word box_h second_word box_w ∷ [])

-- sizes from the words up, then places from the sheet down
abbrev pub two_words_order : List Instance
two_words_order =
    instance_of second_word box_w
    ∷ (instance_of second_word box_h
    ∷ (instance_of first_word box_w
    ∷ (instance_of first_word box_h
    ∷ (instance_of the_column box_w
    ∷ (instance_of the_column box_h
    ∷ (instance_of the_sheet page_h
    ∷ (instance_of the_column box_x
    ∷ (instance_of the_column box_y
    ∷ (instance_of first_word box_x
    ∷ (instance_of second_word box_x
    ∷ (instance_of first_word box_y
    ∷ (instance_of second_word box_y
    ∷ []))))))))))))

-- the widths and heights of the words, and 0 for all that is to be computed
abbrev pub two_words_inputs : List Value
two_words_inputs =
    numbers (0 ∷ (0 ∷ (0 ∷ (0 ∷ (0 ∷ (0 ∷ (0 ∷ (0 ∷ (0 ∷ (20 ∷ (10 ∷ (0 ∷ (0 ∷ (0 ∷ (0 ∷ (30 ∷ (15 ∷ [])))))))))))))))))

-- A sheet over an empty column has five steps. Under bottomup { Page.h Box.w Box.h } ; topdown { Box.x } || topdown
-- { Box.y } the two positions stand beside each other.
abbrev pub x_first : List Instance
x_first =
    instance_of the_column box_w
    ∷ (instance_of the_column box_h
    ∷ (instance_of the_sheet page_h ∷ (instance_of the_column box_x ∷ (instance_of the_column box_y ∷ []))))

-- the same with y first
abbrev pub y_first : List Instance
y_first =
    instance_of the_column box_w
    ∷ (instance_of the_column box_h
    ∷ (instance_of the_sheet page_h ∷ (instance_of the_column box_y ∷ (instance_of the_column box_x ∷ []))))

-- the sheet's height before the column's, which it reads
abbrev pub sheet_first : List Instance
sheet_first =
    instance_of the_column box_w
    ∷ (instance_of the_sheet page_h
    ∷ (instance_of the_column box_h ∷ (instance_of the_column box_x ∷ (instance_of the_column box_y ∷ []))))

-- one step is missing
abbrev pub without_y : List Instance
without_y =
    instance_of the_column box_w
    ∷ (instance_of the_column box_h ∷ (instance_of the_sheet page_h ∷ (instance_of the_column box_x ∷ [])))
