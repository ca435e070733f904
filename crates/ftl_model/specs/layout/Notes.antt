-- A worked grammar that has a local, two children of two interfaces, `this`, `prev`, `last`, and a fold that reads the
-- node itself, with a tree and its values, written out by hand.
use Rattle.std.specs.Prelude.{ℕ, zero, suc, ◌==◌, if◌then◌else◌, List, [], ◌∷◌, ◌++◌, pos, negsuc}
use Rattle.ftl_model.specs.layout.Values.{Value, number, narrow, sum_of}
use Rattle.ftl_model.specs.layout.Folds.{fold_kids}
use Rattle.ftl_model.specs.layout.Tree.{Forest, none, tree}
use Rattle.ftl_model.specs.layout.AttributeGrammar.{AttributeGrammar, Rule, self_read, single_read, each_read, this_read}
use Rattle.ftl_model.specs.layout.AttributeGrammar.{prev_read, last_read, plain, first_then, fold_over, Occurrence, own, kid}
use Rattle.ftl_model.specs.layout.AttributeGrammar.{RuleName, for_self, for_child, Sort, input, inherited, synthesized, local}
use Rattle.ftl_model.specs.layout.Worked.{numbers}

-- root Page;
-- interface Page { syn total; }
-- interface Box { inh x; syn w; input gap; }
-- interface Note { inh shift; syn size, foot; }
-- class Sheet : Page { local base; head : Note; kids : [Box];
--   self.base := head.size + 1;
--   head.shift := last kids.w or 7;
--   kids.x := first self.base then prev.x + prev.w + this.gap;
--   self.total := fold kids from 0 with acc + this.w + self.base; }
-- class Item : Box { input iw; self.w := self.iw; }
-- class Text : Note { input height; self.size := self.height; self.foot := self.shift + self.size; }
--
-- Interfaces Page 0, Box 1, Note 2; classes Sheet 0, Item 1, Text 2; children head 0, kids 1; attributes total 0, x 1,
-- w 2, gap 3, shift 4, size 5, foot 6, base 7, iw 8, height 9.
abbrev pub plus : Value → Value → Value
plus = sum_of narrow

-- Sheet: self.base := head.size + 1
abbrev pub base_rule : Rule
base_rule = record { parts = plain (single_read 0 5 ∷ []); value = λ kids k s. plus (s (kid 0 0 5)) (number (pos 1)) }

-- the width of the last kid, or 7
abbrev pub last_width : ℕ → (Occurrence → Value) → Value
last_width zero s = number (pos 7)
last_width (suc before) s = s (kid 1 before 2)

-- Sheet: head.shift := last kids.w or 7
abbrev pub shift_rule : Rule
shift_rule = record { parts = plain (last_read 1 2 ∷ []); value = λ kids k s. last_width (kids 1) s }

-- self.base, and then prev.x + prev.w + this.gap
abbrev pub x_value : ℕ → (Occurrence → Value) → Value
x_value zero s = s (own 7)
x_value (suc before) s = plus (plus (s (kid 1 before 1)) (s (kid 1 before 2))) (s (kid 1 (suc before) 3))

-- Sheet: kids.x := first self.base then prev.x + prev.w + this.gap
abbrev pub x_rule : Rule
x_rule =
    record {
      parts = first_then (self_read 7 ∷ []) (prev_read 1 1 ∷ prev_read 1 2 ∷ this_read 1 3 ∷ []);
      value = λ kids k s. x_value k s;
    }

-- Sheet: self.total := fold kids from 0 with acc + this.w + self.base
abbrev pub total_rule : Rule
total_rule =
    record {
      parts = fold_over 1 [] (each_read 1 2 ∷ self_read 7 ∷ []);
      value = λ kids k s.
          fold_kids (kids 1) (λ acc n. plus (plus acc (s (kid 1 n 2))) (s (own 7))) (number (pos 0));
    }

-- Item: self.w := self.iw
abbrev pub w_rule : Rule
w_rule = record { parts = plain (self_read 8 ∷ []); value = λ kids k s. s (own 8) }

-- Text: self.size := self.height
abbrev pub size_rule : Rule
size_rule = record { parts = plain (self_read 9 ∷ []); value = λ kids k s. s (own 9) }

-- Text: self.foot := self.shift + self.size
abbrev pub foot_rule : Rule
foot_rule =
    record { parts = plain (self_read 4 ∷ self_read 5 ∷ []); value = λ kids k s. plus (s (own 4)) (s (own 5)) }

-- in the order of the text
abbrev pub notes_rules : List RuleName
notes_rules =
    for_self 0 7 ∷ for_child 0 0 4 ∷ for_child 0 1 1 ∷ for_self 0 0 ∷ for_self 1 2 ∷ for_self 2 5 ∷ for_self 2 6 ∷ []

-- the attributes of each interface
abbrev pub notes_shared : ℕ → List ℕ
notes_shared zero = 0 ∷ []
notes_shared (suc zero) = 1 ∷ 2 ∷ 3 ∷ []
notes_shared (suc (suc i)) = 4 ∷ 5 ∷ 6 ∷ []

-- the attributes that each class adds
abbrev pub notes_private : ℕ → List ℕ
notes_private zero = 7 ∷ []
notes_private (suc zero) = 8 ∷ []
notes_private (suc (suc k)) = 9 ∷ []

-- x and shift are inherited; gap, iw and height inputs; base is a local; the others are synthesized
abbrev pub notes_sort : ℕ → Sort
notes_sort a =
    if a == 1 then inherited
    else (if a == 4 then inherited
    else (if a == 3 then input else (if a == 8 then input else (if a == 9 then input
    else (if a == 7 then local else synthesized)))))

-- the rules for the node itself, class by class
abbrev pub notes_self_rule : ℕ → ℕ → Rule
notes_self_rule zero a = if a == 7 then base_rule else total_rule
notes_self_rule (suc zero) a = w_rule
notes_self_rule (suc (suc k)) a = if a == 5 then size_rule else foot_rule

-- the whole grammar
abbrev pub notes : AttributeGrammar
notes =
    record {
      greatest = narrow;
      root = 0;
      interface_count = 3;
      class_count = 3;
      attribute_count = 10;
      interface = λ class. class;
      child_count = λ class. if class == 0 then 2 else 0;
      child_interface = λ class child. if child == 0 then 2 else 1;
      is_list = λ class child. child == 1;
      shared = notes_shared;
      private = notes_private;
      sort = notes_sort;
      rules = notes_rules;
      self_rule = notes_self_rule;
      child_rule = λ class child a. if child == 0 then shift_rule else x_rule;
    }

-- Sheet { head = Text { height = 4 } kids = [ Item { gap = -3 iw = 10 } Item { gap = 2 iw = 20 } ] }
abbrev pub two_items : Forest
two_items =
    tree 0 0 []
    (tree 2 0 (pos 4 ∷ []) none
    (tree 1 1 (negsuc 2 ∷ pos 10 ∷ []) none (tree 1 1 (pos 2 ∷ pos 20 ∷ []) none none)))
    none

-- total and base of the sheet; shift, size, foot and height of the text; x, w, gap and iw of each item
abbrev pub two_items_values : List Value
two_items_values =
    numbers (40 ∷ 5 ∷ []) ++ numbers (20 ∷ 4 ∷ 24 ∷ 4 ∷ []) ++ numbers (5 ∷ 10 ∷ [])
    ++ (number (negsuc 2) ∷ numbers (10 ∷ []))
    ++ numbers (17 ∷ 20 ∷ 2 ∷ 20 ∷ [])

-- Sheet { head = Text { height = 4 } kids = [ ] }
abbrev pub no_items : Forest
no_items = tree 0 0 [] (tree 2 0 (pos 4 ∷ []) none none) none

-- total and base of the sheet; shift, size, foot and height of the text
abbrev pub no_items_values : List Value
no_items_values = numbers (0 ∷ 5 ∷ []) ++ numbers (7 ∷ 4 ∷ 11 ∷ 4 ∷ [])
