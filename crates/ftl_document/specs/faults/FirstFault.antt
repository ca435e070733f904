-- The first fault of a written document: node by node in preorder, and then the number of all instances.
use Rattle.std.specs.Prelude.{ℕ, ◌==◌, Bool, true, false, not, nat_lt, if◌then◌else◌, List, [], ◌∷◌, ◌++◌, length, map}
use Rattle.std.specs.Prelude.{filter, sum_by, Option, Some, None}
use Rattle.std.specs.List.{find, list_any}
use Rattle.std.specs.Option.{option_map, option_to_list}
use Rattle.ftl_model.specs.layout.Limits.{most_instances}
use Rattle.ftl_grammar.specs.declared.syntax.rules.Grammar.{Grammar}
use Rattle.ftl_document.specs.syntax.Written.{NameText, WrittenNode}
use Rattle.ftl_meaning.specs.faults.Checked.{class_named, field_named, is_input}
use Rattle.ftl_meaning.specs.faults.Numbering.{child_at, children_of, class_attributes, interface_of, is_among}
use Rattle.ftl_meaning.specs.faults.Numbering.{numbered}
use Rattle.ftl_meaning.specs.declared.faults.info.Field.{Field}
use Rattle.ftl_meaning.specs.declared.faults.info.Field.TheVariants as field
use Rattle.ftl_document.specs.faults.Nodes.{FieldForm, FieldHead, StandingNode, child_named, class_number}
use Rattle.ftl_document.specs.faults.Nodes.{list_form, node_form, nodes_of, number_form}
use Rattle.ftl_document.specs.declared.faults.fault.DocFault.{DocFault}
use Rattle.ftl_document.specs.declared.faults.fault.DocFault.TheVariants as fault

-- ---- the first of several

-- the first fault of a list, where some are none
abbrev pub first_there : List (Option DocFault) → Option DocFault
first_there [] = None
first_there (None ∷ faults) = first_there faults
first_there (Some x ∷ faults) = Some x

-- the fault, where it is one
abbrev pub fault_if : Bool → DocFault → Option DocFault
fault_if is_one x = if is_one then Some x else None

-- ---- a field of a node

-- the names of some fields
abbrev pub names_of : List FieldHead → List NameText
names_of fields = map (λ f. f.name) fields

-- an input stands as a number, a single child as a node, and a list child as a list
abbrev pub has_form : Grammar → (class : ℕ) → Field → FieldForm → Bool
has_form g k (field.Input a) number_form = true
has_form g k (field.Input a) node_form = false
has_form g k (field.Input a) list_form = false
has_form g k (field.Child c) number_form = false
has_form g k (field.Child c) node_form = not (child_at g k c).many
has_form g k (field.Child c) list_form = (child_at g k c).many

-- whether a field is of a child that is declared later than this one
abbrev pub is_of_later : Grammar → (class child : ℕ) → FieldHead → Bool
is_of_later g k c f = list_any (nat_lt c) (option_to_list (child_named g k f.name))

-- a child's field stands after the field of a child that is declared later
abbrev pub is_late : Grammar → (class : ℕ) → (earlier : List FieldHead) → Field → Bool
is_late g k earlier (field.Input a) = false
is_late g k earlier (field.Child c) = list_any (is_of_later g k c) earlier

-- the first fault of a field of a node of this class, by what the field's name stands for
abbrev pub field_fault_by : Grammar → (node class : ℕ) → (earlier : List FieldHead) → FieldHead → Option Field
    → Option DocFault
field_fault_by g n k earlier f None = Some (fault.UnknownField n f.name)
field_fault_by g n k earlier f (Some x) =
    first_there (
    fault_if (is_among (names_of earlier) f.name) (fault.FieldTwice n f.name)
    ∷ fault_if (not (has_form g k x f.form)) (fault.FieldForm n f.name)
    ∷ fault_if (is_late g k earlier x) (fault.FieldOrder n f.name)
    ∷ []
    )

-- the first fault of a field, where these stand before it
abbrev pub field_fault : Grammar → (node class : ℕ) → (earlier : List FieldHead) → FieldHead → Option DocFault
field_fault g n k earlier f = field_fault_by g n k earlier f (field_named g k f.name)

-- the first fault of each field, in the order of the text
abbrev pub field_faults : Grammar → (node class : ℕ) → (earlier fields : List FieldHead) → List (Option DocFault)
field_faults g n k earlier [] = []
field_faults g n k earlier (f ∷ fields) =
    field_fault g n k earlier f ∷ field_faults g n k (earlier ++ f ∷ []) fields

-- ---- a node

-- the names of the inputs of a class: its interface's, then its own
abbrev pub input_names : Grammar → (class : ℕ) → List NameText
input_names g k = map (λ a. a.1.name) (filter (λ a. is_input a.1.kind) (class_attributes g k))

-- the names of what a node of this class has a field for: the inputs, then the children
abbrev pub needed_names : Grammar → (class : ℕ) → List NameText
needed_names g k = input_names g k ++ map (λ c. c.1.name) (children_of g k)

-- the first input or child without a field
abbrev pub missing_fault : Grammar → (node class : ℕ) → List FieldHead → Option DocFault
missing_fault g n k fields =
    option_map (fault.FieldMissing n) (find (λ name. not (is_among (names_of fields) name)) (needed_names g k))

-- the first fault of a node, by what the name of its class stands for
abbrev pub node_fault_by : Grammar → (node : ℕ) → StandingNode → Option ℕ → Option DocFault
node_fault_by g n x None = Some (fault.UnknownClass n x.class)
node_fault_by g n x (Some k) =
    first_there (
    fault_if (not (interface_of g k == x.wanted)) (fault.WrongInterface n k x.wanted)
    ∷ first_there (field_faults g n k [] x.fields)
    ∷ missing_fault g n k x.fields
    ∷ []
    )

-- the first fault of the node of this number
abbrev pub node_fault : Grammar → ℕ × StandingNode → Option DocFault
node_fault g x = node_fault_by g x.0 x.1 (class_named g x.1.class)

-- ---- all

-- the first fault of the nodes, in preorder
abbrev pub first_node_fault : Grammar → WrittenNode → Option DocFault
first_node_fault g node = first_there (map (node_fault g) (numbered 0 (nodes_of g node)))

-- how many attributes all nodes have: each those of its class, the interface's and its own
abbrev pub instance_count_of : Grammar → WrittenNode → ℕ
instance_count_of g node = sum_by (λ x. length (class_attributes g (class_number g x.class))) (nodes_of g node)

-- more instances than there may be
abbrev pub too_many_instances : (count : ℕ) → Option DocFault
too_many_instances count = fault_if (nat_lt most_instances count) (fault.TooManyInstances count)

-- the first fault of a document
abbrev pub first_fault : Grammar → WrittenNode → Option DocFault
first_fault g node = first_there (first_node_fault g node ∷ too_many_instances (instance_count_of g node) ∷ [])
