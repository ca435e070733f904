-- The stack grammar: a sheet with one box, which is a word of fixed size or a column of boxes on top of each other.
use Rattle.std.specs.Prelude.{ℕ, zero, suc, ◌==◌, if◌then◌else◌, List, [], ◌∷◌, pos}
use Rattle.ftl_model.specs.layout.Values.{Value, number, narrow, sum_of, greatest_of}
use Rattle.ftl_model.specs.layout.Folds.{fold_kids}
use Rattle.ftl_model.specs.layout.AttributeGrammar.{AttributeGrammar, Rule, Read, self_read, single_read, each_read, prev_read}
use Rattle.ftl_model.specs.layout.AttributeGrammar.{plain, first_then, fold_over, Occurrence, own, kid, RuleName, for_self}
use Rattle.ftl_model.specs.layout.AttributeGrammar.{for_child, Sort, input, inherited, synthesized}

-- the interfaces
abbrev pub page : ℕ
page = 0

-- the interface of columns and words
abbrev pub box : ℕ
box = 1

-- the classes
abbrev pub sheet : ℕ
sheet = 0

-- a list of boxes
abbrev pub column : ℕ
column = 1

-- a box of a fixed size
abbrev pub word : ℕ
word = 2

-- the one child of a sheet (`body`) and of a column (`kids`)
abbrev pub only_child : ℕ
only_child = 0

-- the attributes: h of a page; x, y, w, h of a box; iw, ih of a word
abbrev pub page_h : ℕ
page_h = 0

-- x of a box
abbrev pub box_x : ℕ
box_x = 1

-- y of a box
abbrev pub box_y : ℕ
box_y = 2

-- w of a box
abbrev pub box_w : ℕ
box_w = 3

-- h of a box
abbrev pub box_h : ℕ
box_h = 4

-- iw of a word
abbrev pub word_iw : ℕ
word_iw = 5

-- ih of a word
abbrev pub word_ih : ℕ
word_ih = 6

-- a rule of one expression
abbrev pub plain_rule : List Read → ((ℕ → ℕ) → ℕ → (Occurrence → Value) → Value) → Rule
plain_rule reads value = record { parts = plain reads; value = value }

-- Sheet: self.h := body.h
abbrev pub sheet_h : Rule
sheet_h = plain_rule (single_read only_child box_h ∷ []) (λ kids k s. s (kid only_child 0 box_h))

-- Sheet: body.x := 0 and body.y := 0
abbrev pub body_origin : Rule
body_origin = plain_rule [] (λ kids k s. number (pos 0))

-- Column: self.w := fold kids from 0 with max(acc, this.w)
abbrev pub column_w : Rule
column_w =
    record {
      parts = fold_over only_child [] (each_read only_child box_w ∷ []);
      value = λ kids k s.
          fold_kids (kids only_child) (λ acc n. greatest_of acc (s (kid only_child n box_w))) (number (pos 0));
    }

-- Column: self.h := fold kids from 0 with acc + this.h
abbrev pub column_h : (greatest : ℕ) → Rule
column_h greatest =
    record {
      parts = fold_over only_child [] (each_read only_child box_h ∷ []);
      value = λ kids k s.
          fold_kids (kids only_child) (λ acc n. sum_of greatest acc (s (kid only_child n box_h))) (number (pos 0));
    }

-- Column: kids.x := self.x
abbrev pub kids_x : Rule
kids_x = plain_rule (self_read box_x ∷ []) (λ kids k s. s (own box_x))

-- Column: kids.y := first self.y then prev.y + prev.h
abbrev pub kids_y_value : (greatest : ℕ) → ℕ → (Occurrence → Value) → Value
kids_y_value greatest zero s = s (own box_y)
kids_y_value greatest (suc before) s =
    sum_of greatest (s (kid only_child before box_y)) (s (kid only_child before box_h))

-- the same, with its reads
abbrev pub kids_y : (greatest : ℕ) → Rule
kids_y greatest =
    record {
      parts =
          first_then (self_read box_y ∷ []) (prev_read only_child box_y ∷ (prev_read only_child box_h ∷ []));
      value = λ kids k s. kids_y_value greatest k s;
    }

-- Word: self.w := self.iw
abbrev pub word_w : Rule
word_w = plain_rule (self_read word_iw ∷ []) (λ kids k s. s (own word_iw))

-- Word: self.h := self.ih
abbrev pub word_h : Rule
word_h = plain_rule (self_read word_ih ∷ []) (λ kids k s. s (own word_ih))

-- the rules for the node itself, class by class
abbrev pub stack_self_rule : (greatest class attribute : ℕ) → Rule
stack_self_rule greatest class a =
    if class == sheet then sheet_h
    else (if class == column then (if a == box_w then column_w else column_h greatest)
    else (if a == box_w then word_w else word_h))

-- the rules for its kids, class by class
abbrev pub stack_child_rule : (greatest class child attribute : ℕ) → Rule
stack_child_rule greatest class child a =
    if class == sheet then body_origin else (if a == box_x then kids_x else kids_y greatest)

-- x and y are inherited, iw and ih are inputs, and the others are synthesized
abbrev pub stack_sort : ℕ → Sort
stack_sort a =
    if a == box_x then inherited
    else (if a == box_y then inherited
    else (if a == word_iw then input else (if a == word_ih then input else synthesized)))

-- in the order of the text
abbrev pub stack_rules : List RuleName
stack_rules =
    for_self sheet page_h ∷ for_child sheet only_child box_x ∷ for_child sheet only_child box_y
    ∷ for_self column box_w ∷ for_self column box_h ∷ for_child column only_child box_x
    ∷ for_child column only_child box_y ∷ for_self word box_w ∷ for_self word box_h ∷ []

-- the stack grammar in a width
abbrev pub stack_in : (greatest : ℕ) → AttributeGrammar
stack_in greatest =
    record {
      greatest = greatest;
      root = page;
      interface_count = 2;
      class_count = 3;
      attribute_count = 7;
      interface = λ class. if class == sheet then page else box;
      child_count = λ class. if class == word then 0 else 1;
      child_interface = λ class child. box;
      is_list = λ class child. class == column;
      shared =
          λ interface.
          if interface == page then page_h ∷ [] else box_x ∷ (box_y ∷ (box_w ∷ (box_h ∷ [])));
      private = λ class. if class == word then word_iw ∷ (word_ih ∷ []) else [];
      sort = stack_sort;
      rules = stack_rules;
      self_rule = stack_self_rule greatest;
      child_rule = stack_child_rule greatest;
    }

-- of narrow pages
abbrev pub stack : AttributeGrammar
stack = stack_in narrow
