-- The tree that a written document means, with the names gone.
use Rattle.std.specs.Prelude.{ℕ, ℤ, pos, if◌then◌else◌, List, map}
use Rattle.std.specs.Str.{bytes_eq}
use Rattle.ftl_model.specs.layout.Tree.{Forest, none, tree}
use Rattle.ftl_grammar.specs.declared.syntax.rules.Grammar.{Grammar}
use Rattle.ftl_document.specs.syntax.Written.{NameText, WrittenFields, WrittenNode, WrittenNodes, list_field}
use Rattle.ftl_document.specs.syntax.Written.{no_fields, no_nodes, node_and, node_field, number_field}
use Rattle.ftl_document.specs.faults.FirstFault.{input_names}
use Rattle.ftl_document.specs.faults.Nodes.{child_number, class_number}

-- the number in the field of this name; 0 where there is none
abbrev pub number_named : WrittenFields → NameText → ℤ
number_named no_fields name = pos 0
number_named (number_field other n later) name = if bytes_eq name other then n else number_named later name
number_named (node_field other class _ later) name = number_named later name
number_named (list_field other nodes later) name = number_named later name

-- the inputs of a node of this class, in the order of their declaration: the interface's, then the class's own
abbrev pub inputs_in : Grammar → (class : ℕ) → WrittenFields → List ℤ
inputs_in g k fields = map (number_named fields) (input_names g k)

abbrev mutual
  -- the trees in the fields of a node of this class, in the order of the text, each in the child that its field names
  pub trees_in : Grammar → (class : ℕ) → WrittenFields → Forest
  trees_in g k no_fields = none
  trees_in g k (number_field name n later) = trees_in g k later
  trees_in g k (node_field name class fields later) =
      tree (class_number g class) (child_number g k name) (inputs_in g (class_number g class) fields)
      (trees_in g (class_number g class) fields) (trees_in g k later)
  trees_in g k (list_field name nodes later) = trees_before g (child_number g k name) nodes (trees_in g k later)

  -- the trees of these nodes in this child, and then the later ones
  pub trees_before : Grammar → (child : ℕ) → WrittenNodes → (later : Forest) → Forest
  trees_before g c no_nodes later = later
  trees_before g c (node_and class fields nodes) later =
      tree (class_number g class) c (inputs_in g (class_number g class) fields)
      (trees_in g (class_number g class) fields) (trees_before g c nodes later)

-- the tree of a document
abbrev pub tree_of : Grammar → WrittenNode → Forest
tree_of g node =
    tree (class_number g node.class) 0 (inputs_in g (class_number g node.class) node.fields)
    (trees_in g (class_number g node.class) node.fields) none
