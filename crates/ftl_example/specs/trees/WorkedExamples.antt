-- Least sizes and trees for the pairs of the stack grammar, typed by hand.
use Rattle.std.specs.Prelude.{◌≡◌, ℕ, ◌==◌, if◌then◌else◌, false, [], ◌∷◌, map, None, Some, pos}
use Rattle.ftl_model.specs.layout.AttributeGrammar.{AttributeGrammar, for_child, for_self, plain_part, self_read, synthesized}
use Rattle.ftl_model.specs.layout.Stack.{box_h, box_x, column, only_child, page, sheet, stack, word}
use Rattle.ftl_model.specs.layout.Tree.{none, tree}
use Rattle.ftl_model.specs.layout.Values.{narrow}
use Rattle.ftl_order.specs.automatic.WorkedGrammars.{circle, constant, copy}
use Rattle.ftl_order.specs.orders.Pairs.{Pair, same_class}
use Rattle.ftl_order.specs.worked.WorkedSchedules.{column_reads_height, kids_read_prev_h, kids_read_x, pair_of, stack_pairs}
use Rattle.ftl_example.specs.sizes.Place.{example_size}
use Rattle.ftl_example.specs.trees.ExampleTree.{example_choices, way_tree}
use Rattle.ftl_example.specs.trees.Grown.{grown}

-- in the order of the pairs
abbrev pub StackSizes : Type 0
StackSizes =
    map (example_size stack) stack_pairs
    ≡ map Some (2 ∷ 2 ∷ 3 ∷ 3 ∷ 3 ∷ 3 ∷ 3 ∷ 4 ∷ 3 ∷ 4 ∷ 4 ∷ 4 ∷ 4 ∷ [])

-- a column in a column
abbrev pub ColumnInColumn : Type 0
ColumnInColumn =
    grown stack (example_choices stack (column_reads_height (for_self column box_h))) 3 way_tree page
    ≡ (sheet, tree column 0 [] (tree column 0 [] none none) none)

-- a column and a word beside it, below a column
abbrev pub ColumnBeforeWord : Type 0
ColumnBeforeWord =
    grown stack (example_choices stack (kids_read_prev_h (for_self column box_h))) 4 way_tree page
    ≡ (sheet, tree column 0 [] (tree column 0 [] none (tree word 0 (pos 0 ∷ pos 0 ∷ []) none none)) none)

-- a word in a column in a column
abbrev pub WordInColumns : Type 0
WordInColumns =
    grown stack (example_choices stack (kids_read_x (for_child column only_child box_x))) 4 way_tree page
    ≡ (sheet, tree column 0 [] (tree column 0 [] (tree word 0 (pos 0 ∷ pos 0 ∷ []) none none) none) none)

-- a read of an attribute of the node itself by a rule for another
abbrev pub own_pair : (class reader read writer : ℕ) → Pair
own_pair k a b c = pair_of (for_self k a) plain_part (self_read b) same_class (for_self k c)

-- two attributes that read each other: a node alone shows it
abbrev pub NodeAlone : Type 0
NodeAlone =
    (example_size circle (own_pair 0 0 1 1) ≡ Some 1)
    × (grown circle (example_choices circle (own_pair 0 0 1 1)) 1 way_tree 0 ≡ (0, none))

-- root R; interface R { } interface K { syn a; } class C : R { } class L : K { self.a := self.a; }
abbrev pub unreached : AttributeGrammar
unreached =
    record {
      greatest = narrow;
      root = 0;
      interface_count = 2;
      class_count = 2;
      attribute_count = 1;
      interface = λ class. class;
      child_count = λ class. 0;
      child_interface = λ class child. 0;
      is_list = λ class child. false;
      shared = λ interface. if interface == 1 then 0 ∷ [] else [];
      private = λ class. [];
      sort = λ a. synthesized;
      rules = for_self 1 0 ∷ [];
      self_rule = λ class a. copy 0;
      child_rule = λ class child a. constant;
    }

-- no tree has a node of the reader's class
abbrev pub NoneReached : Type 0
NoneReached = example_size unreached (own_pair 1 0 0 0) ≡ None
