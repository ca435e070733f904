-- What the reader of documents answers: the document that the tokens spell, or the first fault, with its place or
-- count.
use Rattle.std.specs.Prelude.{◌≡◌, ℕ, ◌<◌, ◌≤◌, Result, Ok, Err}
use Rattle.std.specs.List.{All}
use Rattle.ftl_tokens.specs.scanner.Tokenized.{Tokenized, WideTokenized, symbols_of}
use Rattle.ftl_tokens.specs.reading.Depth.{count_of, IsShallow, IsTooDeepAt}
use Rattle.ftl_tokens.specs.reading.Place.{IsFaultPlace}
use Rattle.ftl_document.specs.declared.syntax.fault.WrittenDocumentFault.{WrittenDocumentFault}
use Rattle.ftl_document.specs.declared.syntax.fault.WrittenDocumentFault.TheVariants.{TooDeep, TooManyNodes, Syntax}
use Rattle.ftl_document.specs.declared.syntax.fault.WrittenDocumentFault.TheVariants.{OutOfMemory}
use Rattle.ftl_document.specs.syntax.Written.{WrittenNode}
use Rattle.ftl_document.specs.syntax.Spelling.{SpellsNode}
use Rattle.ftl_document.specs.syntax.Rows.{DocumentRows, document_rows, rows_of_fields}
use Rattle.ftl_model.specs.layout.Limits.{most_nodes}
use Rattle.ftl_document.specs.syntax.Braces.{braces, deepest}
use Rattle.ftl_document.specs.syntax.Sizes.{node_count, levels_of, FieldsAreWithin, RowIsWithin}

-- why a text is no document
abbrev pub Fault : Type 0
Fault = WrittenDocumentFault

-- no memory was left
abbrev pub out_of_memory : Fault
out_of_memory = OutOfMemory

-- at no token too many braces are open
abbrev pub IsNotTooDeep : Tokenized → Type 0
IsNotTooDeep scanned = IsShallow braces deepest (symbols_of scanned)

-- how many marks `{` the text has
abbrev pub opened_in : Tokenized → ℕ
opened_in scanned = count_of braces.opening (symbols_of scanned)

-- within the limits, the tokens spell a document, and this is it
pub record IsDocument (scanned : WideTokenized) (d : DocumentRows) : Type 0 where
  pub node : WrittenNode
  pub spells : SpellsNode (symbols_of scanned.tokenized) node
  pub is : d ≡ document_rows node.class (rows_of_fields node.fields)
  pub shallow : IsNotTooDeep scanned.tokenized
  pub few : opened_in scanned.tokenized ≤ most_nodes
  pub levels : levels_of node ≤ deepest
  pub count : node_count node ≤ most_nodes
  pub inputs : FieldsAreWithin scanned.greatest node.fields
  pub numbers : All (RowIsWithin scanned.greatest) d.rows

-- the text is not too deep, but has so many marks `{` that they are too many
pub record HasTooManyNodes (scanned : Tokenized) (count : ℕ) : Type 0 where
  pub shallow : IsNotTooDeep scanned
  pub many : most_nodes < count
  pub exact : count ≡ opened_in scanned

-- within the limits, the tokens spell no document, and this is the place at which they go wrong
pub record IsNoDocument (scanned : Tokenized) (at : ℕ) : Type 0 where
  pub shallow : IsNotTooDeep scanned
  pub few : opened_in scanned ≤ most_nodes
  pub none : (node : WrittenNode) → SpellsNode (symbols_of scanned) node → ⊥
  pub place : IsFaultPlace SpellsNode scanned at

-- a document is the one that the tokens spell, and a fault is the first, with its place or count
abbrev pub ReadsDocument : WideTokenized → Result DocumentRows WrittenDocumentFault → Type 0
ReadsDocument scanned (Ok d) = IsDocument scanned d
ReadsDocument scanned (Err (TooDeep at)) = IsTooDeepAt braces deepest scanned.tokenized at
ReadsDocument scanned (Err (TooManyNodes count)) = HasTooManyNodes scanned.tokenized count
ReadsDocument scanned (Err (Syntax at)) = IsNoDocument scanned.tokenized at
ReadsDocument scanned (Err OutOfMemory) = Unit {0}
