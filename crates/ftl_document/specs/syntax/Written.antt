-- Documents as they are written: nodes with fields, whose names mean nothing yet.
use Rattle.std.specs.Prelude.{ℕ, ℤ, List}

-- a name, by its bytes in UTF-8
abbrev pub NameText : Type 0
NameText = List ℕ

mutual
  -- the fields in a node's braces, first to last: a number, a node, or a list of nodes
  pub data WrittenFields : Type 0 where
    no_fields : WrittenFields
    number_field : (name : NameText) (n : ℤ) (later : WrittenFields) → WrittenFields
    node_field : (name class : NameText) (fields later : WrittenFields) → WrittenFields
    list_field : (name : NameText) (nodes : WrittenNodes) (later : WrittenFields) → WrittenFields

  -- nodes beside each other, first to last, each with the name of its class and its fields
  pub data WrittenNodes : Type 0 where
    no_nodes : WrittenNodes
    node_and : (class : NameText) (fields : WrittenFields) (later : WrittenNodes) → WrittenNodes

-- one node: what a document is
pub record WrittenNode : Type 0 where
  pub class : NameText
  pub fields : WrittenFields

-- a node of this class with these fields
abbrev pub written_node : (class : NameText) → WrittenFields → WrittenNode
written_node class fields = record { class = class; fields = fields }
