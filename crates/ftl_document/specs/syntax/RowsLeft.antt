-- What is left of the rows that are open, in one another.
use Rattle.std.specs.Prelude.{◌≡◌, ◌≢◌, ℕ, List, [], ◌∷◌, set, Option, Some, None, Result, Ok, Err}
use Rattle.ftl_tokens.specs.declared.scanner.kind.Kind.{Kind}
use Rattle.ftl_tokens.specs.declared.scanner.kind.Kind.TheVariants as kind
use Rattle.ftl_tokens.specs.reading.Reader.{Tokens, ReadResult, ◌>>=◌, ◌>>◌, pure, expect}
use Rattle.ftl_tokens.specs.declared.reading.fault.ReadFault.{ReadFault}
use Rattle.ftl_tokens.specs.declared.reading.fault.ReadFault.TheVariants.{OutOfMemory}
use Rattle.ftl_document.specs.declared.syntax.row.WrittenRow.TheVariants as rows
use Rattle.ftl_document.specs.declared.syntax.open_rows.Inside.{Inside}
use Rattle.ftl_document.specs.declared.syntax.open_rows.Inside.TheVariants.{Fields, Kids}
use Rattle.ftl_document.specs.declared.syntax.open_rows.OpenRow.{OpenRow}
use Rattle.ftl_document.specs.declared.syntax.open_rows.OpenRow.TheVariants as open_row
use Rattle.ftl_document.specs.syntax.RowReading.{Found, RowReader, below, field, fields_to, kid, rounds_of}

-- what stands inside an open row
abbrev pub inside_of : OpenRow → Inside
inside_of (open_row.Root depth) = Fields depth
inside_of (open_row.Single x class at depth) = Fields depth
inside_of (open_row.List x at depth) = Kids depth
inside_of (open_row.Kid class at depth) = Fields depth

-- what stands inside the innermost one
abbrev pub innermost : List OpenRow → Option Inside
innermost [] = None
innermost (o ∷ os) = Some (inside_of o)

-- the rows, of which those from the open one on were read inside it
abbrev pub closed : OpenRow → Found → Found
closed (open_row.Root depth) found = found
closed (open_row.Single x class at depth) found = set found at (rows.Single x class (below found at))
closed (open_row.List x at depth) found = set found at (rows.List x (below found at))
closed (open_row.Kid class at depth) found = set found at (rows.Kid class (below found at))

-- reads one field, or one node of a list
abbrev pub item_of : Inside → RowReader
item_of (Fields depth) = field (fields_to depth)
item_of (Kids depth) = kid (fields_to depth)

-- what ends them
abbrev pub mark_of : Inside → Kind
mark_of (Fields depth) = kind.RightBrace
mark_of (Kids depth) = kind.RightBracket

-- reads what is left inside an open row, and its end
abbrev pub rest_inside : Inside → OpenRow → RowReader
rest_inside i o found = do
  inside ← rounds_of (item_of i) found
  expect (mark_of i)
  pure (closed o inside)

-- reads what is left of open rows, from the innermost one on
unfoldable pub resume : List OpenRow → RowReader
resume [] found = pure found
resume (o ∷ os) found = rest_inside (inside_of o) o found >>= resume os

-- ---- what a turn ensures

-- what was left to read gives what is left now, and after a refusal the tokens from the refused one on are left, unless
-- memory ran out
abbrev pub LeadsTo : ReadResult Found → Result (Unit {0}) ReadFault → ReadResult Found → Tokens → Type 0
LeadsTo before (Ok u) now left = before ≡ now
LeadsTo before (Err e) now left = e ≢ OutOfMemory → before ≡ Err left
