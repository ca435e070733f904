-- The written document of a tree, in the canonical order: the interface's inputs, the class's inputs, and the children,
-- each in the order of their declaration.
use Rattle.std.specs.Prelude.{ℕ, ◌==◌, if◌then◌else◌, ℤ, List, [], ◌∷◌, filter}
use Rattle.ftl_model.specs.layout.Tree.{Forest, none, tree}
use Rattle.ftl_grammar.specs.declared.syntax.rules.Child.{Child}
use Rattle.ftl_grammar.specs.declared.syntax.rules.Grammar.{Grammar}
use Rattle.ftl_document.specs.syntax.Written.{NameText, WrittenFields, WrittenNode, WrittenNodes, list_field}
use Rattle.ftl_document.specs.syntax.Written.{no_fields, no_nodes, node_and, node_field, number_field}
use Rattle.ftl_meaning.specs.faults.Numbering.{children_of, class_at}
use Rattle.ftl_document.specs.faults.FirstFault.{input_names}

-- a kid as it is written: the child in which it stands, the name of its class, and its fields
pub record WrittenKid : Type 0 where
  pub child : ℕ
  pub class : NameText
  pub fields : WrittenFields

-- the kids that stand in this child
abbrev pub kids_in : (child : ℕ) → List WrittenKid → List WrittenKid
kids_in c kids = filter (λ x. x.child == c) kids

-- nodes beside each other
abbrev pub nodes_from : List WrittenKid → WrittenNodes
nodes_from [] = no_nodes
nodes_from (x ∷ kids) = node_and x.class x.fields (nodes_from kids)

-- the field of a single child, which has one kid
abbrev pub single_field : NameText → List WrittenKid → (later : WrittenFields) → WrittenFields
single_field name [] later = later
single_field name (x ∷ kids) later = node_field name x.class x.fields later

-- the field of a child with these kids, before later fields
abbrev pub child_field : Child → List WrittenKid → (later : WrittenFields) → WrittenFields
child_field c kids later =
    if c.many then list_field c.name (nodes_from kids) later else single_field c.name kids later

-- the fields of these children, in order, each with those of the kids that stand in it
abbrev pub child_fields : List (ℕ × Child) → List WrittenKid → WrittenFields
child_fields [] kids = no_fields
child_fields (c ∷ children) kids = child_field c.1 (kids_in c.0 kids) (child_fields children kids)

-- the fields of inputs of these names, with these numbers, before later fields
abbrev pub input_fields : List NameText → List ℤ → (later : WrittenFields) → WrittenFields
input_fields [] numbers later = later
input_fields (name ∷ names) [] later = later
input_fields (name ∷ names) (n ∷ numbers) later = number_field name n (input_fields names numbers later)

-- the fields of a node of this class
abbrev pub fields_from : Grammar → (class : ℕ) → (inputs : List ℤ) → List WrittenKid → WrittenFields
fields_from g k inputs kids = input_fields (input_names g k) inputs (child_fields (children_of g k) kids)

-- trees beside each other, each as it is written
abbrev pub written_kids : Grammar → Forest → List WrittenKid
written_kids g none = []
written_kids g (tree class child inputs below beside) =
    record {
      child = child;
      class = (class_at g class).name;
      fields = fields_from g class inputs (written_kids g below);
    } ∷ written_kids g beside

-- the document of a tree
abbrev pub written_of : Grammar → Forest → WrittenNode
written_of g none = record { class = []; fields = no_fields }
written_of g (tree class child inputs below beside) =
    record { class = (class_at g class).name; fields = fields_from g class inputs (written_kids g below) }
