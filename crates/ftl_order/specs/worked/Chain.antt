-- A grammar whose kids read both attributes of the kid before, so that only an inorder pass orders it.
-- root R; interface R { } interface K { inh a, b; show a, b; }
-- class C : R { kids : [K]; kids.a := first 1 then prev.b; kids.b := first 2 then prev.a + prev.b; } class L : K { }
use Rattle.std.specs.Prelude.{ℕ, zero, suc, ◌==◌, if◌then◌else◌, true, List, [], ◌∷◌, pos}
use Rattle.ftl_model.specs.layout.AttributeGrammar.{AttributeGrammar, Occurrence, Rule, first_then, for_child, inherited, kid}
use Rattle.ftl_model.specs.layout.AttributeGrammar.{plain, prev_read, then_part}
use Rattle.ftl_model.specs.layout.Path.{down, top}
use Rattle.ftl_model.specs.layout.Solves.{Instance, instance_of}
use Rattle.ftl_model.specs.layout.Tree.{Forest, none, tree}
use Rattle.ftl_model.specs.layout.Values.{Value, narrow, number, overflow, sum_of}
use Rattle.ftl_model.specs.layout.Worked.{numbers}
use Rattle.ftl_order.specs.orders.Pairs.{Pair, same_class}
use Rattle.ftl_order.specs.orders.Schedule.{Schedule, inorder, topdown}
use Rattle.ftl_order.specs.worked.WorkedSchedules.{pair_of, stage}

-- first 1 then prev.b
abbrev pub chain_a_value : ℕ → (Occurrence → Value) → Value
chain_a_value zero s = number (pos 1)
chain_a_value (suc before) s = s (kid 0 before 1)

-- C: kids.a := first 1 then prev.b
abbrev pub chain_a : Rule
chain_a = record { parts = first_then [] (prev_read 0 1 ∷ []); value = λ kids k s. chain_a_value k s }

-- first 2 then prev.a + prev.b
abbrev pub chain_b_value : ℕ → (Occurrence → Value) → Value
chain_b_value zero s = number (pos 2)
chain_b_value (suc before) s = sum_of narrow (s (kid 0 before 0)) (s (kid 0 before 1))

-- C: kids.b := first 2 then prev.a + prev.b
abbrev pub chain_b : Rule
chain_b =
    record { parts = first_then [] (prev_read 0 0 ∷ (prev_read 0 1 ∷ [])); value = λ kids k s. chain_b_value k s }

-- no class has a rule for itself
abbrev pub no_rule : Rule
no_rule = record { parts = plain []; value = λ kids k s. overflow }

-- interfaces R 0 and K 1; classes C 0 and L 1; attributes a 0 and b 1
abbrev pub chain : AttributeGrammar
chain =
    record {
      greatest = narrow;
      root = 0;
      interface_count = 2;
      class_count = 2;
      attribute_count = 2;
      interface = λ class. class;
      child_count = λ class. if class == 0 then 1 else 0;
      child_interface = λ class child. 1;
      is_list = λ class child. true;
      shared = λ interface. if interface == 1 then 0 ∷ (1 ∷ []) else [];
      private = λ class. [];
      sort = λ a. inherited;
      rules = for_child 0 0 0 ∷ (for_child 0 0 1 ∷ []);
      self_rule = λ class a. no_rule;
      child_rule = λ class child a. if a == 0 then chain_a else chain_b;
    }

-- topdown { K.a K.b }
abbrev pub chain_topdown : Schedule
chain_topdown = stage topdown (0 ∷ (1 ∷ [])) ∷ []

-- inorder { K.a K.b }
abbrev pub chain_inorder : Schedule
chain_inorder = stage inorder (0 ∷ (1 ∷ [])) ∷ []

-- C kids.a reads C kids.b, by prev.b
abbrev pub a_reads_b : Pair
a_reads_b = pair_of (for_child 0 0 0) then_part (prev_read 0 1) same_class (for_child 0 0 1)

-- C { kids = [ L { } L { } L { } ] }
abbrev pub three_kids : Forest
three_kids = tree 0 0 [] (tree 1 0 [] none (tree 1 0 [] none (tree 1 0 [] none none))) none

-- an attribute of a kid
abbrev pub chain_step : (kid attribute : ℕ) → Instance
chain_step k a = instance_of (down 0 k top) a

-- kid by kid, a and then b
abbrev pub chain_order : List Instance
chain_order =
    chain_step 0 0
    ∷ (chain_step 0 1 ∷ (chain_step 1 0 ∷ (chain_step 1 1 ∷ (chain_step 2 0 ∷ (chain_step 2 1 ∷ [])))))

-- a and b of each kid
abbrev pub three_kids_values : List Value
three_kids_values = numbers (1 ∷ (2 ∷ (2 ∷ (3 ∷ (3 ∷ (5 ∷ []))))))
