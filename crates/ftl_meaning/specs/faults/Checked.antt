-- A lawful grammar with its width, and what its numbers stand for.
use Rattle.std.specs.Prelude.{ℕ, ◌&&◌, Bool, true, false, not, if◌then◌else◌, List, [], ◌++◌, map, flat_map}
use Rattle.std.specs.Prelude.{slice_index_or, Option, Some, None, Result, Ok, Err}
use Rattle.std.specs.List.{position}
use Rattle.std.specs.Option.{option_and_then, option_map, option_or}
use Rattle.std.specs.Str.{bytes_eq}
use Rattle.ftl_base.specs.declared.width.Width.{Width}
use Rattle.ftl_grammar.specs.syntax.Trees.{NameText}
use Rattle.ftl_grammar.specs.syntax.Trees as trees
use Rattle.ftl_grammar.specs.declared.syntax.rules.AttrDecl.{AttrDecl}
use Rattle.ftl_grammar.specs.declared.syntax.rules.AttrKind.{AttrKind}
use Rattle.ftl_grammar.specs.declared.syntax.rules.AttrKind.TheVariants as kinds
use Rattle.ftl_grammar.specs.declared.syntax.rules.Child.{Child}
use Rattle.ftl_grammar.specs.declared.syntax.rules.Grammar.{Grammar}
use Rattle.ftl_grammar.specs.declared.syntax.rules.Rule.{Rule}
use Rattle.ftl_meaning.specs.declared.faults.fault.GrammarFault.{GrammarFault}
use Rattle.ftl_meaning.specs.declared.faults.info.AttrInfo.{AttrInfo}
use Rattle.ftl_meaning.specs.declared.faults.info.ChildInfo.{ChildInfo}
use Rattle.ftl_meaning.specs.declared.faults.info.RuleInfo.{RuleInfo}
use Rattle.ftl_meaning.specs.declared.faults.info.Field.{Field}
use Rattle.ftl_meaning.specs.declared.faults.info.Field.TheVariants as field
use Rattle.ftl_meaning.specs.faults.Numbering.{class_at, class_attributes, class_names, find_attribute, find_child}
use Rattle.ftl_meaning.specs.faults.Numbering.{interface_at, interface_number, is_among, numbered, own_attributes}
use Rattle.ftl_meaning.specs.faults.Numbering.{shared_attributes}
use Rattle.ftl_meaning.specs.faults.RuleForms.{Slot, own_slot, kid_slot, slot_of}
use Rattle.ftl_meaning.specs.faults.FirstFault.{first_fault}

-- a grammar, with the width of its numbers
pub record CheckedGrammar : Type 0 where
  pub grammar : Grammar
  pub width : Width

-- what the check of a grammar answers: the grammar with the width, or its first fault
abbrev pub answer_by : Option GrammarFault → Grammar → Width → Result CheckedGrammar GrammarFault
answer_by None g width = Ok (record { grammar = g; width = width })
answer_by (Some x) g width = Err x

-- the same, by the grammar's first fault
abbrev pub checked_as : Grammar → Width → Result CheckedGrammar GrammarFault
checked_as g width = answer_by (first_fault g) g width

-- ---- attributes

-- an attribute as it is declared: in which interface, or in which class as its own
pub record Declared : Type 0 where
  pub of_class : Bool
  pub owner : ℕ
  pub decl : AttrDecl

-- an attribute of this owner
abbrev pub declared : Bool → (owner : ℕ) → AttrDecl → Declared
declared of_class owner decl = record { of_class = of_class; owner = owner; decl = decl }

-- all attributes, in the order of their numbers
abbrev pub all_attributes : Grammar → List Declared
all_attributes g =
    flat_map (λ x. map (declared false x.0) x.1.attrs) (numbered 0 g.interfaces)
    ++ flat_map (λ k. map (declared true k.0) k.1.attrs) (numbered 0 g.classes)

-- the attribute of this number; past the end one without a name
abbrev pub attribute_at : Grammar → (attribute : ℕ) → Declared
attribute_at g a = slice_index_or (all_attributes g) a (declared false 0 (trees.attr_decl kinds.Inh []))

-- whether an attribute is shown: those of interfaces may be
abbrev pub is_shown : Grammar → Declared → Bool
is_shown g a = not a.of_class && is_among (interface_at g a.owner).shown a.decl.name

-- what is known of an attribute
abbrev pub attribute_info : Grammar → Declared → AttrInfo
attribute_info g a = record { kind = a.decl.kind; of_class = a.of_class; owner = a.owner; shown = is_shown g a }

-- the name of an attribute's interface or class
abbrev pub owner_name_of : Grammar → Declared → NameText
owner_name_of g a = if a.of_class then (class_at g a.owner).name else (interface_at g a.owner).name

-- ---- children

-- what is known of a child
abbrev pub child_info : Grammar → Child → ChildInfo
child_info g c = record { interface = interface_number g c.interface; many = c.many }

-- ---- rules

-- all rules with their classes, in the order of their numbers
abbrev pub all_rules : Grammar → List (ℕ × Rule)
all_rules g = flat_map (λ k. map (λ r. (k.0, r)) k.1.rules) (numbered 0 g.classes)

-- what is known of a rule of this class, by what it defines
abbrev pub info_by : (class : ℕ) → Option Slot → RuleInfo
info_by k (Some (own_slot a)) = record { class = k; child = None; attr = a }
info_by k (Some (kid_slot c a)) = record { class = k; child = Some c; attr = a }
info_by k None = record { class = k; child = None; attr = 0 }

-- what is known of a rule
abbrev pub rule_info : Grammar → ℕ × Rule → RuleInfo
rule_info g r = info_by r.0 (slot_of g r.0 r.1.target)

-- what is known of the rule of this number; past the end of one for nothing
abbrev pub rule_info_at : Grammar → (rule : ℕ) → RuleInfo
rule_info_at g r = slice_index_or (map (rule_info g) (all_rules g)) r (info_by 0 None)

-- ---- look-ups by name

-- the class of this name
abbrev pub class_named : Grammar → NameText → Option ℕ
class_named g name = position (bytes_eq name) (class_names g)

-- whether an attribute is an input
abbrev pub is_input : AttrKind → Bool
is_input kinds.Inh = false
is_input kinds.Syn = false
is_input kinds.Input = true
is_input kinds.Local = false

-- an input as a field; none of the other kinds
abbrev pub input_field : ℕ × AttrDecl → Option Field
input_field a = if is_input a.1.kind then Some (field.Input a.0) else None

-- the field that an attribute of this name is, or else a child of this name
abbrev pub field_by : Option (ℕ × AttrDecl) → Option (ℕ × Child) → Option Field
field_by (Some a) child = input_field a
field_by None child = option_map (λ c. field.Child c.0) child

-- the input or child of this name, which a document's field may name
abbrev pub field_named : Grammar → (class : ℕ) → NameText → Option Field
field_named g k name = field_by (find_attribute name (class_attributes g k)) (find_child g k name)

-- ---- what a schedule names

-- an attribute of an interface that a rule computes
abbrev pub is_shared_computed : AttrKind → Bool
is_shared_computed kinds.Inh = true
is_shared_computed kinds.Syn = true
is_shared_computed kinds.Input = false
is_shared_computed kinds.Local = false

-- an attribute of a class's own that a rule computes
abbrev pub is_own_computed : AttrKind → Bool
is_own_computed kinds.Inh = false
is_own_computed kinds.Syn = false
is_own_computed kinds.Input = false
is_own_computed kinds.Local = true

-- the number of an attribute of such a kind; none of the other kinds
abbrev pub number_if : (AttrKind → Bool) → ℕ × AttrDecl → Option ℕ
number_if may a = if may a.1.kind then Some a.0 else None

-- the inherited or synthesized attribute of this name of an interface
abbrev pub shared_named : Grammar → (interface : ℕ) → NameText → Option ℕ
shared_named g i name = option_and_then (number_if is_shared_computed) (find_attribute name (shared_attributes g i))

-- the local of this name of a class
abbrev pub local_named : Grammar → (class : ℕ) → NameText → Option ℕ
local_named g k name = option_and_then (number_if is_own_computed) (find_attribute name (own_attributes g k))

-- the computed attribute that `owner.name` names in a schedule: an inherited or synthesized one of the interface of
-- that name, or else a local of the class of that name
abbrev pub attribute_named : Grammar → (owner name : NameText) → Option ℕ
attribute_named g owner name =
    option_or (shared_named g (interface_number g owner) name)
    (option_and_then (λ k. local_named g k name) (class_named g owner))
