-- Small grammars, to hold the automatic schedule against.
use Rattle.std.specs.Prelude.{ℕ, ◌==◌, if◌then◌else◌, false, [], ◌∷◌, pos}
use Rattle.ftl_model.specs.layout.AttributeGrammar.{AttributeGrammar, Rule, for_self, inherited, local, own, self_read}
use Rattle.ftl_model.specs.layout.Stack.{plain_rule}
use Rattle.ftl_model.specs.layout.Values.{narrow, number}
use Rattle.ftl_order.specs.orders.Schedule.{Schedule, topdown}
use Rattle.ftl_order.specs.worked.WorkedSchedules.{stage}

-- a rule without reads
abbrev pub constant : Rule
constant = plain_rule [] (λ kids k s. number (pos 1))

-- a rule for the node's own attribute
abbrev pub copy : ℕ → Rule
copy a = plain_rule (self_read a ∷ []) (λ kids k s. s (own a))

-- Two attributes that read each other, a 0 and b 1, beside c 2, which reads nothing. root R; interface R { }
-- class C : R { local a, b, c; self.a := self.b; self.b := self.a; self.c := 1; }
abbrev pub circle : AttributeGrammar
circle =
    record {
      greatest = narrow;
      root = 0;
      interface_count = 1;
      class_count = 1;
      attribute_count = 3;
      interface = λ class. 0;
      child_count = λ class. 0;
      child_interface = λ class child. 0;
      is_list = λ class child. false;
      shared = λ interface. [];
      private = λ class. 0 ∷ (1 ∷ (2 ∷ []));
      sort = λ a. local;
      rules = for_self 0 0 ∷ (for_self 0 1 ∷ (for_self 0 2 ∷ []));
      self_rule = λ class a. if a == 0 then copy 1 else (if a == 1 then copy 0 else constant);
      child_rule = λ class child a. constant;
    }

-- Nothing is read, and no class has p 0; a is 1.
-- root R; interface R { } interface K { inh p; } class C : R { local a; self.a := 1; }
abbrev pub free : AttributeGrammar
free =
    record {
      greatest = narrow;
      root = 0;
      interface_count = 2;
      class_count = 1;
      attribute_count = 2;
      interface = λ class. 0;
      child_count = λ class. 0;
      child_interface = λ class child. 0;
      is_list = λ class child. false;
      shared = λ interface. if interface == 1 then 0 ∷ [] else [];
      private = λ class. 1 ∷ [];
      sort = λ a. if a == 0 then inherited else local;
      rules = for_self 0 1 ∷ [];
      self_rule = λ class a. constant;
      child_rule = λ class child a. constant;
    }

-- topdown { K.p C.a }
abbrev pub both_topdown : Schedule
both_topdown = stage topdown (0 ∷ (1 ∷ [])) ∷ []
