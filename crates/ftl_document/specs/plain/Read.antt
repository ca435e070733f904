-- What is promised of a document that is read from the bytes of a text.
use Rattle.std.specs.Prelude.{◌≡◌, ℕ, Bool, true, false, List, Ok}
use Rattle.ftl_tokens.specs.declared.scanner.kind.Token.{Token}
use Rattle.ftl_tokens.specs.scanner.Scan.{scan}
use Rattle.ftl_document.specs.declared.syntax.row.WrittenRow.{WrittenRow}
use Rattle.ftl_document.specs.declared.syntax.row.WrittenRow.TheVariants as rows
use Rattle.ftl_document.specs.syntax.Read.{ReadsDocument}
use Rattle.ftl_document.specs.syntax.Rows.{DocumentRows}

-- the text has no fault of its tokens, and this is the document that they spell
pub record IsReadFrom (greatest : ℕ) (text : List ℕ) (d : DocumentRows) : Type 0 where
  pub tokens : List Token
  pub scanned : scan greatest text ≡ Ok tokens
  pub reads : ReadsDocument (record { tokenized = record { text = text; tokens = tokens }; greatest = greatest }) (Ok d)

-- whether the row is a node
abbrev pub is_node : WrittenRow → Bool
is_node (rows.Single x class below) = true
is_node (rows.Kid class below) = true
is_node _ = false
