-- The first fault of a grammar, in the order in which they are looked for.
use Rattle.std.specs.Prelude.{ℕ, ◌+◌, ◌==◌, ◌&&◌, Bool, true, false, not, nat_lt, if◌then◌else◌, List, [], ◌∷◌, ◌++◌}
use Rattle.std.specs.Prelude.{length, map, filter, flat_map, Option, Some, None}
use Rattle.std.specs.List.{list_any}
use Rattle.std.specs.Option.{is_none, option_map, option_to_list}
use Rattle.ftl_model.specs.layout.Limits.{most_attributes, most_children, most_classes, most_interfaces, most_owner_attributes, most_part_reads}
use Rattle.ftl_grammar.specs.syntax.Trees.{NameText}
use Rattle.ftl_grammar.specs.declared.syntax.expression.Expr.{Expr}
use Rattle.ftl_grammar.specs.declared.syntax.rules.AttrDecl.{AttrDecl}
use Rattle.ftl_grammar.specs.declared.syntax.rules.Body.{Body}
use Rattle.ftl_grammar.specs.declared.syntax.rules.Child.{Child}
use Rattle.ftl_grammar.specs.declared.syntax.rules.Class.{Class}
use Rattle.ftl_grammar.specs.declared.syntax.rules.Grammar.{Grammar}
use Rattle.ftl_grammar.specs.declared.syntax.rules.Interface.{Interface}
use Rattle.ftl_grammar.specs.declared.syntax.rules.Rule.{Rule}
use Rattle.ftl_grammar.specs.declared.syntax.rules.Target.{Target}
use Rattle.ftl_grammar.specs.declared.syntax.rules.Target.TheVariants as targets
use Rattle.ftl_meaning.specs.formulas.Formula.{reads_of}
use Rattle.ftl_meaning.specs.formulas.Expressions.{formula_of}
use Rattle.ftl_meaning.specs.declared.formulas.read_name.ReadName.{ReadName}
use Rattle.ftl_meaning.specs.declared.formulas.read_name.ReadName.TheVariants as names
use Rattle.ftl_meaning.specs.declared.faults.fault.What.{What}
use Rattle.ftl_meaning.specs.declared.faults.fault.What.TheVariants as what
use Rattle.ftl_meaning.specs.declared.faults.fault.GrammarFault.{GrammarFault}
use Rattle.ftl_meaning.specs.declared.faults.fault.GrammarFault.TheVariants as fault
use Rattle.ftl_meaning.specs.declared.faults.rule_name.RuleName.{RuleName}
use Rattle.ftl_meaning.specs.faults.Allowed.{Position, leaf_of}
use Rattle.ftl_meaning.specs.faults.Numbering.{children_of, class_at, class_attributes, class_names, child_attributes}
use Rattle.ftl_meaning.specs.faults.Numbering.{interface_at, interface_names, interface_number, is_among, numbered}
use Rattle.ftl_meaning.specs.faults.Numbering.{own_count}
use Rattle.ftl_meaning.specs.faults.Numbering.{shared_count}
use Rattle.ftl_meaning.specs.faults.RuleForms.{Form, Slot, expressions_of, form_of, is_synthesized_or_local}
use Rattle.ftl_meaning.specs.faults.RuleForms.{is_inherited}
use Rattle.ftl_meaning.specs.faults.RuleForms.{kid_slot, own_slot, parts_of, slot_of}

-- ---- the first of several

-- the first fault of a list, where some are none
abbrev pub first_there : List (Option GrammarFault) → Option GrammarFault
first_there [] = None
first_there (None ∷ faults) = first_there faults
first_there (Some x ∷ faults) = Some x

-- the first fault of some entries, in order
abbrev pub first_of : {X : Type 0} → (X → Option GrammarFault) → List X → Option GrammarFault
first_of fault_in xs = first_there (map fault_in xs)

-- the fault, where it is one
abbrev pub fault_if : Bool → GrammarFault → Option GrammarFault
fault_if is_one x = if is_one then Some x else None

-- ---- limits

-- more than there may be
abbrev pub too_many : What → (limit count : ℕ) → Option GrammarFault
too_many kind limit count = fault_if (nat_lt limit count) (fault.TooMany kind count)

-- what a fold has so far is no read
abbrev pub is_counted : ReadName → Bool
is_counted (names.Own a) = true
is_counted (names.This a) = true
is_counted (names.Prev a) = true
is_counted (names.Of c a) = true
is_counted (names.Last c a) = true
is_counted names.Acc = false

-- how many reads an expression has
abbrev pub read_count : Expr → ℕ
read_count e = length (filter is_counted (reads_of (formula_of e)))

-- too many own attributes of a class, or too many children
abbrev pub class_limits : Class → Option GrammarFault
class_limits x =
    first_there (too_many what.Attributes most_owner_attributes (length x.attrs) ∷ too_many what.Children most_children (length x.children) ∷ [])

-- too many reads in a rule
abbrev pub read_limits : Rule → Option GrammarFault
read_limits r = first_of (λ e. too_many what.Reads most_part_reads (read_count e)) (expressions_of r.body)

-- more of anything than there may be
abbrev pub limit_fault : Grammar → Option GrammarFault
limit_fault g =
    first_there (
    too_many what.Interfaces most_interfaces (length g.interfaces)
    ∷ too_many what.Classes most_classes (length g.classes)
    ∷ first_of (λ x. too_many what.Attributes most_owner_attributes (length x.attrs)) g.interfaces
    ∷ first_of class_limits g.classes
    ∷ too_many what.AllAttributes most_attributes (shared_count g.interfaces + own_count g.classes)
    ∷ first_of (λ x. first_of read_limits x.rules) g.classes
    ∷ []
    )

-- ---- names

-- the first of these names that stands before, among those or among these
abbrev pub second_name : (before names : List NameText) → Option NameText
second_name before [] = None
second_name before (name ∷ names) =
    if is_among before name then Some name else second_name (before ++ (name ∷ [])) names

-- a name that stands twice, at its second place
abbrev pub twice_among : List NameText → Option GrammarFault
twice_among list = option_map fault.TwiceNamed (second_name [] list)

-- the names of attributes
abbrev pub attribute_names : List AttrDecl → List NameText
attribute_names xs = map (λ x. x.name) xs

-- the first name of a list that is none of those that are known
abbrev pub unknown_among : (known names : List NameText) → Option GrammarFault
unknown_among known list = first_of (λ name. fault_if (not (is_among known name)) (fault.UnknownName name)) list

-- the interface of a class, and those of its children
abbrev pub interfaces_named : Class → List NameText
interfaces_named x = x.interface ∷ map (λ c. c.interface) x.children

-- an attribute or a shown name twice in an interface
abbrev pub twice_in_interface : Interface → Option GrammarFault
twice_in_interface x = first_there (twice_among (attribute_names x.attrs) ∷ twice_among x.shown ∷ [])

-- a name twice in a class, among its attributes and its children
abbrev pub twice_in_class : Grammar → (class : ℕ) → Option GrammarFault
twice_in_class g k =
    twice_among (map (λ a. a.1.name) (class_attributes g k) ++ map (λ c. c.1.name) (children_of g k))

-- the root's interface has an inherited attribute
abbrev pub root_inherits : Grammar → Bool
root_inherits g = list_any (λ a. is_inherited a.kind) (interface_at g (interface_number g g.root)).attrs

-- a name that stands twice, or stands for nothing, and a root that inherits
abbrev pub name_fault : Grammar → Option GrammarFault
name_fault g =
    first_there (
    twice_among (interface_names g ++ class_names g)
    ∷ fault_if (not (is_among (interface_names g) g.root)) (fault.RootMissing g.root)
    ∷ first_of (λ x. unknown_among (attribute_names x.attrs) x.shown) g.interfaces
    ∷ first_of (λ x. unknown_among (interface_names g) (interfaces_named x)) g.classes
    ∷ first_of twice_in_interface g.interfaces
    ∷ first_of (λ k. twice_in_class g k.0) (numbered 0 g.classes)
    ∷ fault_if (root_inherits g) (fault.RootInherits g.root)
    ∷ []
    )

-- ---- rules

-- the rule of a class for a target, by name
abbrev pub rule_name : Class → Target → RuleName
rule_name x (targets.Own a) = record { class = x.name; child = None; attr = a }
rule_name x (targets.Of c a) = record { class = x.name; child = Some c; attr = a }

-- whether two slots are one
abbrev pub same_slot : Slot → Slot → Bool
same_slot (own_slot a) (own_slot b) = a == b
same_slot (own_slot a) (kid_slot d b) = false
same_slot (kid_slot c a) (own_slot b) = false
same_slot (kid_slot c a) (kid_slot d b) = c == d && a == b

-- a read of an expression that is not allowed where it stands, or names nothing
abbrev pub bad_read : Grammar → (class : ℕ) → RuleName → Position × Expr → Option GrammarFault
bad_read g k rule part =
    first_of (λ read. fault_if (is_none (leaf_of g k part.0 read)) (fault.BadRead rule read))
    (reads_of (formula_of part.1))

-- a rule without a right form, one for a slot that an earlier rule has, or one with a bad read
abbrev pub form_fault : Grammar → (class : ℕ) → RuleName → (is_second : Bool) → Option Form → Option GrammarFault
form_fault g k rule is_second None = Some (fault.BadForm rule)
form_fault g k rule is_second (Some form) =
    first_there (fault_if is_second (fault.TwiceRuled rule) ∷ first_of (bad_read g k rule) (parts_of form) ∷ [])

-- a fault of a rule, where earlier rules have those slots
abbrev pub rule_fault : Grammar → (class : ℕ) → RuleName → (earlier : List Slot) → Body → Option Slot
    → Option GrammarFault
rule_fault g k rule earlier body None = Some (fault.NotAssignable rule)
rule_fault g k rule earlier body (Some slot) =
    form_fault g k rule (list_any (same_slot slot) earlier) (form_of g k slot body)

-- for each rule of a class its first fault, or none
abbrev pub rule_faults : Grammar → (class : ℕ) → (earlier : List Slot) → List Rule → List (Option GrammarFault)
rule_faults g k earlier [] = []
rule_faults g k earlier (r ∷ rs) =
    rule_fault g k (rule_name (class_at g k) r.target) earlier r.body (slot_of g k r.target)
    ∷ rule_faults g k (earlier ++ option_to_list (slot_of g k r.target)) rs

-- the attributes of the node itself that the class needs rules for: its interface's, then its own
abbrev pub own_required : Grammar → (class : ℕ) → List (Slot × Target)
own_required g k =
    map (λ a. (own_slot a.0, targets.Own a.1.name))
    (filter (λ a. is_synthesized_or_local a.1.kind) (class_attributes g k))

-- the attributes of a child that the class needs rules for
abbrev pub kid_required : Grammar → ℕ × Child → List (Slot × Target)
kid_required g c =
    map (λ a. (kid_slot c.0 a.0, targets.Of c.1.name a.1.name))
    (filter (λ a. is_inherited a.1.kind) (child_attributes g c.1))

-- whether a rule of the class is for this slot
abbrev pub is_ruled : Grammar → (class : ℕ) → Slot → Bool
is_ruled g k slot =
    list_any (λ r. list_any (same_slot slot) (option_to_list (slot_of g k r.target))) (class_at g k).rules

-- an attribute without a rule
abbrev pub missing_rule : Grammar → (class : ℕ) → Option GrammarFault
missing_rule g k =
    first_of (λ need. fault_if (not (is_ruled g k need.0)) (fault.MissingRule (rule_name (class_at g k) need.1)))
    (own_required g k ++ flat_map (kid_required g) (children_of g k))

-- a fault of a class in its rules, and then an attribute that has none
abbrev pub class_fault : Grammar → (class : ℕ) → Option GrammarFault
class_fault g k = first_there (rule_faults g k [] (class_at g k).rules ++ (missing_rule g k ∷ []))

-- ---- all

-- the first fault of a grammar
abbrev pub first_fault : Grammar → Option GrammarFault
first_fault g =
    first_there (
    limit_fault g
    ∷ name_fault g
    ∷ first_of (λ k. class_fault g k.0) (numbered 0 g.classes)
    ∷ []
    )
