-- The canonical text of a document: its tokens, each with the white space behind it. A node is its class, ` {`, its
-- fields, and ` }`. A field is a space, the name, ` = ` and the value. A list is `[`, for each node a space and the
-- node, and ` ]`. A negative number is `-` and its digits. The text ends with a line feed.
use Rattle.std.specs.Prelude.{◌≡◌, ℕ, suc, ℤ, pos, negsuc, List, [], ◌∷◌, ◌++◌, codes, Ok}
use Rattle.ftl_tokens.specs.declared.scanner.kind.Kind.{Kind}
use Rattle.ftl_tokens.specs.declared.scanner.kind.Kind.TheVariants as kind
use Rattle.ftl_tokens.specs.declared.scanner.kind.Token.{Token}
use Rattle.ftl_tokens.specs.scanner.Scan.{scan}
use Rattle.ftl_tokens.specs.scanner.Tokenized.{fixed, name, number, symbols_of}
use Rattle.ftl_tokens.specs.writing.Written.{CanBeSaid, Written, text_of, written}
use Rattle.ftl_document.specs.syntax.Sizes.{FieldsAreWithin}
use Rattle.ftl_document.specs.syntax.Spelling.{SpellsNode}
use Rattle.ftl_document.specs.syntax.Written.{NameText, WrittenFields, WrittenNode, WrittenNodes, list_field, no_fields}
use Rattle.ftl_document.specs.syntax.Written.{no_nodes, node_and, node_field, number_field}

-- ---- the tokens

-- a name and a space
abbrev pub name_written : NameText → Written
name_written x = written (name x) (codes " ")

-- a mark and a space
abbrev pub mark_written : Kind → Written
mark_written k = written (fixed k) (codes " ")

-- a number and a space, with `-` right before its digits where it is negative
abbrev pub number_written : ℤ → List Written
number_written (pos n) = written (number n) (codes " ") ∷ []
number_written (negsuc n) = written (fixed kind.Minus) [] ∷ written (number (suc n)) (codes " ") ∷ []

-- the name of a field and `=`
abbrev pub field_opened : NameText → List Written
field_opened x = name_written x ∷ mark_written kind.Equals ∷ []

-- a class and `{`
abbrev pub node_opened : NameText → List Written
node_opened class = name_written class ∷ mark_written kind.LeftBrace ∷ []

-- a mark that closes, and what follows later
abbrev pub closed_by : Kind → (later : List Written) → List Written
closed_by k later = mark_written k ∷ later

abbrev mutual
  -- the fields of a node
  pub fields_written : WrittenFields → List Written
  fields_written no_fields = []
  fields_written (number_field x n later) = field_opened x ++ (number_written n ++ fields_written later)
  fields_written (node_field x class fields later) =
      field_opened x ++ (node_opened class ++ (fields_written fields
      ++ closed_by kind.RightBrace (fields_written later)))
  fields_written (list_field x nodes later) =
      field_opened x ++ (mark_written kind.LeftBracket ∷ (nodes_written nodes
      ++ closed_by kind.RightBracket (fields_written later)))

  -- the nodes of a list
  pub nodes_written : WrittenNodes → List Written
  nodes_written no_nodes = []
  nodes_written (node_and class fields later) =
      node_opened class ++ (fields_written fields ++ closed_by kind.RightBrace (nodes_written later))

-- a whole document
abbrev pub document_written : WrittenNode → List Written
document_written node =
    node_opened node.class ++ (fields_written node.fields ++ (written (fixed kind.RightBrace) (codes "\n") ∷ []))

-- the canonical text
abbrev pub document_text : WrittenNode → List ℕ
document_text node = text_of (document_written node)

-- ---- which documents can be written

-- the name can be said
abbrev pub IsSaid : NameText → Type 0
IsSaid x = CanBeSaid 2147483647 (name x)

abbrev mutual
  -- all names in these fields can be said
  pub AreFieldsSaid : WrittenFields → Type 0
  AreFieldsSaid no_fields = Unit {0}
  AreFieldsSaid (number_field x n later) = IsSaid x × AreFieldsSaid later
  AreFieldsSaid (node_field x class fields later) =
      IsSaid x × IsSaid class × AreFieldsSaid fields × AreFieldsSaid later
  AreFieldsSaid (list_field x nodes later) = IsSaid x × AreNodesSaid nodes × AreFieldsSaid later

  -- all names in these nodes can
  pub AreNodesSaid : WrittenNodes → Type 0
  AreNodesSaid no_nodes = Unit {0}
  AreNodesSaid (node_and class fields later) = IsSaid class × AreFieldsSaid fields × AreNodesSaid later

-- all names can be said, and no number is above the greatest
pub record CanBeWritten (greatest : ℕ) (node : WrittenNode) : Type 0 where
  pub class : IsSaid node.class
  pub names : AreFieldsSaid node.fields
  pub numbers : FieldsAreWithin greatest node.fields

-- the text has tokens, no number above the greatest, and they spell the document
pub record IsTextOf (greatest : ℕ) (text : List ℕ) (node : WrittenNode) : Type 0 where
  pub tokens : List Token
  pub scanned : scan greatest text ≡ Ok tokens
  pub spells : SpellsNode (symbols_of (record { text = text; tokens = tokens })) node
