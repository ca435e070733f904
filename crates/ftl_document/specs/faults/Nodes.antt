-- The nodes of a written document in preorder, each with the interface that is wanted where it stands.
use Rattle.std.specs.Prelude.{ℕ, List, [], ◌∷◌, ◌++◌, Option, Some, None}
use Rattle.std.specs.List.{position_or_len}
use Rattle.std.specs.Str.{bytes_eq}
use Rattle.ftl_grammar.specs.declared.syntax.rules.Grammar.{Grammar}
use Rattle.ftl_document.specs.syntax.Written.{NameText, WrittenFields, WrittenNode, WrittenNodes, list_field}
use Rattle.ftl_document.specs.syntax.Written.{no_fields, no_nodes, node_and, node_field, number_field}
use Rattle.ftl_meaning.specs.faults.Checked.{field_named}
use Rattle.ftl_meaning.specs.faults.Numbering.{child_at, class_names, interface_number}
use Rattle.ftl_meaning.specs.declared.faults.info.Field.{Field}
use Rattle.ftl_meaning.specs.declared.faults.info.Field.TheVariants as field

-- ---- fields without what stands in them

-- what stands in a field: a number, a node, or a list of nodes
pub data FieldForm : Type 0 where
  number_form : FieldForm
  node_form : FieldForm
  list_form : FieldForm

-- a field by its name and its form
pub record FieldHead : Type 0 where
  pub name : NameText
  pub form : FieldForm

-- both
abbrev pub head_of : NameText → FieldForm → FieldHead
head_of name form = record { name = name; form = form }

-- the heads of fields, first to last
abbrev pub field_heads : WrittenFields → List FieldHead
field_heads no_fields = []
field_heads (number_field name n later) = head_of name number_form ∷ field_heads later
field_heads (node_field name class _ later) = head_of name node_form ∷ field_heads later
field_heads (list_field name nodes later) = head_of name list_form ∷ field_heads later

-- ---- what names stand for

-- the number of the class of this name, or how many classes there are where there is none
abbrev pub class_number : Grammar → NameText → ℕ
class_number g name = position_or_len (bytes_eq name) (class_names g)

-- the child that a field is of, if it is a child's
abbrev pub child_by : Option Field → Option ℕ
child_by (Some (field.Input a)) = None
child_by (Some (field.Child c)) = Some c
child_by None = None

-- the child of a class that a field of this name is of, if it is a child's
abbrev pub child_named : Grammar → (class : ℕ) → NameText → Option ℕ
child_named g k name = child_by (field_named g k name)

-- that child's number; 0 where it is none
abbrev pub number_or_zero : Option ℕ → ℕ
number_or_zero (Some c) = c
number_or_zero None = 0

-- the number of the child in which the nodes of a field of this name stand
abbrev pub child_number : Grammar → (class : ℕ) → NameText → ℕ
child_number g k name = number_or_zero (child_named g k name)

-- the interface that is wanted of the nodes in a field of this name: that of the child as it is declared
abbrev pub wanted_in : Grammar → (class : ℕ) → NameText → ℕ
wanted_in g k name = interface_number g (child_at g k (child_number g k name)).interface

-- ---- nodes in preorder

-- a node where it stands: the number of the interface that is wanted there, the name of its class, and its fields
pub record StandingNode : Type 0 where
  pub wanted : ℕ
  pub class : NameText
  pub fields : List FieldHead

-- a node of this class with these fields
abbrev pub standing : (wanted : ℕ) → (class : NameText) → WrittenFields → StandingNode
standing i class fields = record { wanted = i; class = class; fields = field_heads fields }

abbrev mutual
  -- the nodes in the fields of a node of this class
  pub nodes_in : Grammar → (class : ℕ) → WrittenFields → List StandingNode
  nodes_in g k no_fields = []
  nodes_in g k (number_field name n later) = nodes_in g k later
  nodes_in g k (node_field name class fields later) =
      (standing (wanted_in g k name) class fields ∷ nodes_in g (class_number g class) fields) ++ nodes_in g k later
  nodes_in g k (list_field name nodes later) = nodes_beside g (wanted_in g k name) nodes ++ nodes_in g k later

  -- nodes beside each other, of which this interface is wanted, with those below them
  pub nodes_beside : Grammar → (wanted : ℕ) → WrittenNodes → List StandingNode
  nodes_beside g i no_nodes = []
  nodes_beside g i (node_and class fields later) =
      (standing i class fields ∷ nodes_in g (class_number g class) fields) ++ nodes_beside g i later

-- the nodes of a document, of whose first node the root's interface is wanted
abbrev pub nodes_of : Grammar → WrittenNode → List StandingNode
nodes_of g node =
    standing (interface_number g g.root) node.class node.fields
    ∷ nodes_in g (class_number g node.class) node.fields
