-- The grammar that a text means, with its names gone, and its names for printing.
use Rattle.std.specs.Prelude.{ℕ, ◌+◌, Bool, List, [], ◌++◌, length, map, filter, flat_map, slice_index_or, Option, Some}
use Rattle.std.specs.Prelude.{None}
use Rattle.std.specs.List.{find, list_any}
use Rattle.std.specs.Option.{option_and_then, option_map, option_to_list}
use Rattle.ftl_model.specs.layout.AttributeGrammar as model
use Rattle.ftl_model.specs.layout.AttributeGrammar.{AttributeGrammar, Rule, RuleName, Sort}
use Rattle.ftl_model.specs.layout.Boxes.{Names}
use Rattle.ftl_model.specs.layout.Values.{overflow}
use Rattle.ftl_grammar.specs.syntax.Trees as trees
use Rattle.ftl_grammar.specs.declared.syntax.rules.AttrDecl.{AttrDecl}
use Rattle.ftl_grammar.specs.declared.syntax.rules.AttrKind.{AttrKind}
use Rattle.ftl_grammar.specs.declared.syntax.rules.AttrKind.TheVariants as kinds
use Rattle.ftl_grammar.specs.declared.syntax.rules.Grammar.{Grammar}
use Rattle.ftl_grammar.specs.declared.syntax.rules.Rule as written
use Rattle.ftl_meaning.specs.faults.FirstFault.{same_slot}
use Rattle.ftl_meaning.specs.faults.Numbering.{child_at, class_at, interface_at, interface_number, interface_of}
use Rattle.ftl_meaning.specs.faults.Numbering.{is_among}
use Rattle.ftl_meaning.specs.faults.Numbering.{numbered, own_attributes, own_count, shared_attributes, shared_count}
use Rattle.ftl_meaning.specs.faults.RuleForms.{Form, Slot, form_of, kid_slot, own_slot, slot_of}
use Rattle.ftl_meaning.specs.grammars.Meaning.{rule_of_form}

-- ---- attributes

-- the attribute of this number; past the end an input without a name
abbrev pub declaration_at : Grammar → ℕ → AttrDecl
declaration_at g a =
    slice_index_or (flat_map (λ x. x.attrs) g.interfaces ++ flat_map (λ x. x.attrs) g.classes) a
    (trees.attr_decl kinds.Input [])

-- the sort of a kind
abbrev pub sort_of : AttrKind → Sort
sort_of kinds.Inh = model.inherited
sort_of kinds.Syn = model.synthesized
sort_of kinds.Input = model.input
sort_of kinds.Local = model.local

-- the attributes of an interface that are shown, in the order of declaration
abbrev pub shown_attributes : Grammar → (interface : ℕ) → List ℕ
shown_attributes g i =
    map (λ a. a.0) (filter (λ a. is_among (interface_at g i).shown a.1.name) (shared_attributes g i))

-- ---- rules

-- whether a rule of the class is for this slot
abbrev pub is_for : Grammar → (class : ℕ) → Slot → written.Rule → Bool
is_for g k slot r = list_any (same_slot slot) (option_to_list (slot_of g k r.target))

-- the form of the class's rule for a slot; none where there is no such rule, or it has no right form
abbrev pub form_for : Grammar → (class : ℕ) → Slot → Option Form
form_for g k slot = option_and_then (λ r. form_of g k slot r.body) (find (is_for g k slot) (class_at g k).rules)

-- what stands for a rule where there is none
abbrev pub no_rule : Rule
no_rule = record { parts = model.plain []; value = λ kids n s. overflow }

-- a rule of this form, if there is one
abbrev pub rule_by : (greatest : ℕ) → Grammar → (class : ℕ) → Option Form → Rule
rule_by greatest g k None = no_rule
rule_by greatest g k (Some form) = rule_of_form greatest g k form

-- the class's rule for a slot
abbrev pub rule_for : (greatest : ℕ) → Grammar → (class : ℕ) → Slot → Rule
rule_for greatest g k slot = rule_by greatest g k (form_for g k slot)

-- the rule of a class for a slot, by number
abbrev pub name_of_rule : (class : ℕ) → Slot → RuleName
name_of_rule k (own_slot a) = model.for_self k a
name_of_rule k (kid_slot c a) = model.for_child k c a

-- the rules of a class by number, in the order of the text
abbrev pub rules_of_class : Grammar → (class : ℕ) → List RuleName
rules_of_class g k =
    flat_map (λ r. option_to_list (option_map (name_of_rule k) (slot_of g k r.target))) (class_at g k).rules

-- ---- all

-- the grammar with its names gone, in this width
abbrev pub grammar_of : (greatest : ℕ) → Grammar → AttributeGrammar
grammar_of greatest g =
    record {
      greatest = greatest;
      root = interface_number g g.root;
      interface_count = length g.interfaces;
      class_count = length g.classes;
      attribute_count = shared_count g.interfaces + own_count g.classes;
      interface = interface_of g;
      child_count = λ k. length (class_at g k).children;
      child_interface = λ k c. interface_number g (child_at g k c).interface;
      is_list = λ k c. (child_at g k c).many;
      shared = λ i. map (λ a. a.0) (shared_attributes g i);
      private = λ k. map (λ a. a.0) (own_attributes g k);
      sort = λ a. sort_of (declaration_at g a).kind;
      rules = flat_map (λ k. rules_of_class g k.0) (numbered 0 g.classes);
      self_rule = λ k a. rule_for greatest g k (own_slot a);
      child_rule = λ k c a. rule_for greatest g k (kid_slot c a);
    }

-- what is printed of a grammar
abbrev pub names_of : Grammar → Names
names_of g =
    record {
      class_name = λ k. (class_at g k).name;
      attribute_name = λ a. (declaration_at g a).name;
      shown = λ k. shown_attributes g (interface_of g k);
    }
