-- What is printed of the stack grammar.
use Rattle.std.specs.Prelude.{ℕ, ◌==◌, if◌then◌else◌, List, [], ◌∷◌, codes}
use Rattle.ftl_model.specs.layout.Boxes.{Names}
use Rattle.ftl_model.specs.layout.Stack.{sheet, column, page_h, box_x, box_y, box_w, box_h, word_iw, word_ih}

-- the names of the classes
abbrev pub stack_class_name : ℕ → List ℕ
stack_class_name class = if class == sheet then codes "Sheet"
    else (if class == column then codes "Column" else codes "Word")

-- the names of the attributes
abbrev pub stack_attribute_name : ℕ → List ℕ
stack_attribute_name a =
    if a == box_x then codes "x"
    else (if a == box_y then codes "y"
    else (if a == box_w then codes "w"
    else (if a == word_iw then codes "iw" else (if a == word_ih then codes "ih" else codes "h"))))

-- `interface Page` shows h, and `interface Box` shows x, y, w, h
abbrev pub stack_shown : ℕ → List ℕ
stack_shown class = if class == sheet then page_h ∷ [] else box_x ∷ (box_y ∷ (box_w ∷ (box_h ∷ [])))

-- all of these
abbrev pub stack_names : Names
stack_names =
    record { class_name = stack_class_name; attribute_name = stack_attribute_name; shown = stack_shown }
