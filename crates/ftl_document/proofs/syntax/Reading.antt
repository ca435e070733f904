-- How documents are read, one token ahead. What stands in the braces of a node is read by the parameter `fields`.
use Rattle.std.specs.Prelude.{ℕ, zero, suc, ℤ, pos, neg_ℤ, Option, Some, None}
use Rattle.ftl_tokens.specs.declared.scanner.kind.Kind.{Kind}
use Rattle.ftl_tokens.specs.declared.scanner.kind.Kind.TheVariants as kind
use Rattle.ftl_tokens.specs.reading.Reader.{Reader, ◌>>=◌, ◌>>◌, ◌<$>◌, pure, refuse, next_kind, skip, expect, take_name}
use Rattle.ftl_tokens.specs.reading.Reader.{take_number, at_end, chain_of}
use Rattle.ftl_document.specs.syntax.Written.{NameText, WrittenFields, WrittenNode, WrittenNodes, no_fields, number_field}
use Rattle.ftl_document.specs.syntax.Written.{node_field, list_field, no_nodes, node_and, written_node}

-- fields, and then others
abbrev pub append_fields : WrittenFields → WrittenFields → WrittenFields
append_fields no_fields others = others
append_fields (number_field x n later) others = number_field x n (append_fields later others)
append_fields (node_field x class fields later) others = node_field x class fields (append_fields later others)
append_fields (list_field x nodes later) others = list_field x nodes (append_fields later others)

-- nodes, and then others
abbrev pub append_nodes : WrittenNodes → WrittenNodes → WrittenNodes
append_nodes no_nodes others = others
append_nodes (node_and class fields later) others = node_and class fields (append_nodes later others)

-- nodes, and then one more
abbrev pub add_node : WrittenNodes → WrittenNode → WrittenNodes
add_node nodes node = append_nodes nodes (node_and node.class node.fields no_nodes)

-- a field that is a number, alone
abbrev pub one_number : NameText → ℤ → WrittenFields
one_number x n = number_field x n no_fields

-- a field that is a node, alone
abbrev pub one_single : NameText → WrittenNode → WrittenFields
one_single x node = node_field x node.class node.fields no_fields

-- a field that is a list, alone
abbrev pub one_list : NameText → WrittenNodes → WrittenFields
one_list x nodes = list_field x nodes no_fields

-- one more where a name comes next, by the kind of the next token
abbrev pub more_by : {A : Type 0} → Reader A → Option Kind → Reader (Option A)
more_by item (Some kind.Name) = Some <$> item
more_by item _ = pure None

-- one more where a name comes next
unfoldable pub more : {A : Type 0} → Reader A → Reader (Option A)
more item = λ ts. more_by item (next_kind ts) ts

module _ (fields : Reader WrittenFields) where
  -- fields in braces
  unfoldable pub braced : Reader WrittenFields
  braced = do
    expect kind.LeftBrace
    inside ← fields
    expect kind.RightBrace
    pure inside

  -- a class and its fields in braces
  unfoldable pub node : Reader WrittenNode
  node = do
    class ← take_name
    inside ← braced
    pure (written_node class inside)

  -- nodes and `]`, after `[`
  unfoldable pub list : NameText → Reader WrittenFields
  list x = do
    nodes ← chain_of add_node (more node) no_nodes
    expect kind.RightBracket
    pure (one_list x nodes)

  -- what stands after a field's `=`, by the kind of the next token
  abbrev pub value_by : NameText → Option Kind → Reader WrittenFields
  value_by x (Some kind.Number) = (λ n. one_number x (pos n)) <$> take_number
  value_by x (Some kind.Minus) = skip >> (λ n. one_number x (neg_ℤ (pos n))) <$> take_number
  value_by x (Some kind.LeftBracket) = skip >> list x
  value_by x _ = one_single x <$> node

  -- what stands after a field's `=`
  unfoldable pub value : NameText → Reader WrittenFields
  value x = λ ts. value_by x (next_kind ts) ts

  -- one field
  unfoldable pub field : Reader WrittenFields
  field = do
    x ← take_name
    expect kind.Equals
    value x

  -- fields as long as there is one more
  unfoldable pub fields_level : Reader WrittenFields
  fields_level = chain_of append_fields (more field) no_fields

-- the fields of a node in which fewer braces than the depth stand in one another
unfoldable pub fields_to : ℕ → Reader WrittenFields
fields_to zero = refuse
fields_to (suc depth) = fields_level (fields_to depth)

-- a document whose nodes have fields to this depth
unfoldable pub document_to : ℕ → Reader WrittenNode
document_to depth = do
  x ← node (fields_to depth)
  at_end
  pure x

-- a document, with at most 512 braces in one another
unfoldable pub document : Reader WrittenNode
document = document_to 512
