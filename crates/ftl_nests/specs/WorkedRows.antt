-- A worked grammar of rows of cells, a tree of it, and a schedule with a nest in each of two passes.
-- root Page; interface Page { syn h; } interface Line { syn h; } interface Slot { syn ph; inh rh; }
-- class Sheet : Page { rows : [Line]; self.h := fold rows from 0 with acc + this.h; }
-- class Row : Line { cells : [Slot]; self.h := fold cells from 0 with max(acc, this.ph); cells.rh := self.h; }
-- class Cell : Slot { self.ph := 10; }
use Rattle.std.specs.Prelude.{ℕ, zero, suc, ◌==◌, if◌then◌else◌, true, List, [], ◌∷◌, Some}
use Rattle.ftl_model.specs.layout.AttributeGrammar.{AttributeGrammar, Parts, Rule, each_read, fold_over, for_child, for_self, inherited, plain, self_read, synthesized}
use Rattle.ftl_model.specs.layout.Path.{Path, down, top}
use Rattle.ftl_model.specs.layout.Tree.{Forest, none, tree}
use Rattle.ftl_model.specs.layout.Values.{narrow, overflow}
use Rattle.ftl_order.specs.orders.Schedule.{PassKind, Schedule, bottomup, topdown}
use Rattle.ftl_items.specs.stage_items.Items.{Item, cuts_of, kinds_of, nexts_by}
use Rattle.ftl_items.specs.stage_items.StageWork.{form_items}
use Rattle.ftl_nests.specs.NestItems.{nest_form, pass_count}
use Rattle.ftl_nests.specs.Nests.{NestingPass, NestingSchedule}

-- a rule with these parts; its value plays no part
abbrev pub with_parts : Parts → Rule
with_parts parts = record { parts = parts; value = λ kids k s. overflow }

-- attributes Page.h 0, Line.h 1, Slot.ph 2, Slot.rh 3
abbrev pub rows_shared : ℕ → List ℕ
rows_shared zero = 0 ∷ []
rows_shared (suc zero) = 1 ∷ []
rows_shared (suc (suc i)) = 2 ∷ 3 ∷ []

-- interfaces and classes 0, 1, 2
abbrev pub rows : AttributeGrammar
rows =
    record {
      greatest = narrow;
      root = 0;
      interface_count = 3;
      class_count = 3;
      attribute_count = 4;
      interface = λ class. class;
      child_count = λ class. if class == 2 then 0 else 1;
      child_interface = λ class child. suc class;
      is_list = λ class child. true;
      shared = rows_shared;
      private = λ class. [];
      sort = λ a. if a == 3 then inherited else synthesized;
      rules = for_self 0 0 ∷ for_self 1 1 ∷ for_child 1 0 3 ∷ for_self 2 2 ∷ [];
      self_rule = λ class a. with_parts (if class == 2 then plain [] else fold_over 0 [] (each_read 0 (suc class) ∷ []));
      child_rule = λ class child a. with_parts (plain (self_read 1 ∷ []));
    }

-- two rows, of two cells and of one
abbrev pub two_rows : Forest
two_rows =
    tree 0 0 []
    (tree 1 0 [] (tree 2 0 [] none (tree 2 0 [] none none)) (tree 1 0 [] (tree 2 0 [] none none) none))
    none

-- the nodes
abbrev pub row_node : ℕ → Path
row_node k = down 0 k top

-- a cell of a row
abbrev pub cell_node : (row cell : ℕ) → Path
cell_node row k = down 0 k (row_node row)

-- a pass that nests this in each row
abbrev pub pass_with : PassKind → List ℕ → Schedule → NestingPass
pass_with kind attributes stages =
    record { kind = kind; attributes = attributes; nest = Some (record { host = 1; stages = stages }) }

-- one inner pass
abbrev pub one_inner : PassKind → List ℕ → Schedule
one_inner kind attributes = ((record { kind = kind; attributes = attributes }) ∷ []) ∷ []

-- bottomup { Page.h Line.h } nest Row { bottomup { Slot.ph } } ; topdown { } nest Row { topdown { Slot.rh } }
abbrev pub nested_rows : NestingSchedule
nested_rows =
    (pass_with bottomup (0 ∷ 1 ∷ []) (one_inner bottomup (2 ∷ [])) ∷ [])
    ∷ ((pass_with topdown [] (one_inner topdown (3 ∷ [])) ∷ []) ∷ [])

-- the items of a stage of it
abbrev pub nested_items : (grain stage : ℕ) → List Item
nested_items grain stage =
    form_items rows two_rows (pass_count nested_rows stage) (nest_form rows nested_rows two_rows grain stage)

-- the numbers of those that an item hands on to
abbrev pub nested_nexts : (grain stage item : ℕ) → List ℕ
nested_nexts grain stage i =
    nexts_by (kinds_of (cuts_of (nest_form rows nested_rows two_rows grain stage))) (nested_items grain stage) i
