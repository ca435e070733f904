-- How the rows of a document are read: each reader here takes the rows that were found before, and gives them with
-- those of what it reads behind. What stands in the braces of a node is read by the parameter `fields`.
use Rattle.std.specs.Prelude.{◌≡◌, ◌≢◌, ℕ, zero, suc, ◌+◌, ◌-◌, min, pos, neg_ℤ, List, [], length, set, Option}
use Rattle.std.specs.Prelude.{Some, Result, Ok, Err}
use Rattle.ftl_tokens.specs.declared.scanner.kind.Kind.{Kind}
use Rattle.ftl_tokens.specs.declared.scanner.kind.Kind.TheVariants as kind
use Rattle.ftl_tokens.specs.reading.Reader.{Tokens, ReadResult, Reader, ◌>>=◌, ◌>>◌, ◌<$>◌, pure, refuse, next_kind, skip}
use Rattle.ftl_tokens.specs.reading.Reader.{expect, take_name, take_number, at_end, push}
use Rattle.ftl_tokens.specs.declared.reading.fault.ReadFault.{ReadFault}
use Rattle.ftl_tokens.specs.declared.reading.fault.ReadFault.TheVariants.{OutOfMemory}
use Rattle.ftl_document.specs.declared.syntax.row.WrittenRow.{WrittenRow}
use Rattle.ftl_document.specs.declared.syntax.row.WrittenRow.TheVariants as rows
use Rattle.ftl_document.specs.syntax.Written.{NameText}
use Rattle.ftl_document.specs.syntax.Rows.{DocumentRows, document_rows}

-- the rows that were found
abbrev pub Found : Type 0
Found = List WrittenRow

-- takes the rows that were found, and gives more
abbrev pub RowReader : Type 0
RowReader = Found → Reader Found

-- how many rows there are behind this place, and no more than 32 bits hold
abbrev pub below : Found → ℕ → ℕ
below found at = min (length found - (at + 1)) 4294967295

-- by the kind of the next token: one more item, and then again, or no more
abbrev pub round_by : Reader Found → RowReader → Found → Option Kind → Reader Found
round_by item again found (Some kind.Name) = item >>= again
round_by item again found _ = pure found

-- items, each behind those that were found, as long as a name comes next; at most so many
unfoldable pub rounds : RowReader → ℕ → RowReader
rounds item zero found = pure found
rounds item (suc n) found = λ ts. round_by (item found) (λ more. rounds item n more) found (next_kind ts) ts

-- each item takes a token, so there are at most as many items as tokens
abbrev pub rounds_of : RowReader → RowReader
rounds_of item found = λ ts. rounds item (length ts) found ts

module _ (fields : RowReader) where
  -- fields in braces
  unfoldable pub braces : RowReader
  braces found = do
    expect kind.LeftBrace
    inside ← fields found
    expect kind.RightBrace
    pure inside

  -- a node in a list
  unfoldable pub kid : RowReader
  kid found = do
    class ← take_name
    inside ← braces (push found (rows.Kid class 0))
    pure (set inside (length found) (rows.Kid class (below inside (length found))))

  -- a field that is a node, after `=`
  unfoldable pub single : NameText → RowReader
  single x found = do
    class ← take_name
    inside ← braces (push found (rows.Single x class 0))
    pure (set inside (length found) (rows.Single x class (below inside (length found))))

  -- a field that is a list, after `[`
  unfoldable pub list : NameText → RowReader
  list x found = do
    inside ← rounds_of kid (push found (rows.List x 0))
    expect kind.RightBracket
    pure (set inside (length found) (rows.List x (below inside (length found))))

  -- what stands after a field's `=`, by the kind of the next token
  abbrev pub value_by : NameText → Found → Option Kind → Reader Found
  value_by x found (Some kind.Number) = (λ n. push found (rows.Number x (pos n))) <$> take_number
  value_by x found (Some kind.Minus) = skip >> (λ n. push found (rows.Number x (neg_ℤ (pos n)))) <$> take_number
  value_by x found (Some kind.LeftBracket) = skip >> list x found
  value_by x found _ = single x found

  -- what stands after a field's `=`
  unfoldable pub value : NameText → RowReader
  value x found = λ ts. value_by x found (next_kind ts) ts

  -- one field
  unfoldable pub field : RowReader
  field found = do
    x ← take_name
    expect kind.Equals
    value x found

-- the fields of a node in which fewer braces than the depth stand in one another
unfoldable pub fields_to : ℕ → RowReader
fields_to zero found = refuse
fields_to (suc depth) found = rounds_of (field (fields_to depth)) found

-- a document with at most 512 braces in one another
unfoldable pub document : Reader DocumentRows
document = do
  class ← take_name
  inside ← braces (fields_to 512) []
  at_end
  pure (document_rows class inside)

-- ---- what a function that adds rows ensures

-- the rows are those that the reader gives, and after a refusal the tokens from the refused one on are left, unless
-- memory ran out
abbrev pub Pushes : ReadResult Found → Result (Unit {0}) ReadFault → Found → Tokens → Type 0
Pushes outcome (Ok u) found left = outcome ≡ Ok (found, left)
Pushes outcome (Err e) found left = e ≢ OutOfMemory → outcome ≡ Err left
