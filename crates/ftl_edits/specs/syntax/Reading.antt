-- How edits are read, one token ahead.
use Rattle.std.specs.Prelude.{ℤ, pos, neg_ℤ, List, [], Option, Some, None}
use Rattle.ftl_tokens.specs.declared.scanner.kind.Kind.{Kind}
use Rattle.ftl_tokens.specs.declared.scanner.kind.Kind.TheVariants as kind
use Rattle.ftl_tokens.specs.reading.Reader.{Reader, ◌>>=◌, ◌>>◌, ◌<$>◌, pure, next_kind, skip, expect, take_name}
use Rattle.ftl_tokens.specs.reading.Reader.{take_number, at_end, push, chain_of}
use Rattle.ftl_edits.specs.declared.syntax.written.WrittenEdit.{WrittenEdit}
use Rattle.ftl_edits.specs.syntax.Written.{written_edit}

-- the value of an edit, by the kind of the next token
abbrev pub value_by : Option Kind → Reader ℤ
value_by (Some kind.Minus) = skip >> (λ n. neg_ℤ (pos n)) <$> take_number
value_by _ = (λ n. pos n) <$> take_number

-- the value of an edit
unfoldable pub value : Reader ℤ
value = λ ts. value_by (next_kind ts) ts

-- an edit
unfoldable pub edit : Reader WrittenEdit
edit = do
  node ← take_number
  expect kind.Dot
  x ← take_name
  expect kind.Equals
  n ← value
  expect kind.Semicolon
  pure (written_edit node x n)

-- one more edit, by the kind of the next token
abbrev pub more_edit_by : Option Kind → Reader (Option WrittenEdit)
more_edit_by (Some kind.Number) = Some <$> edit
more_edit_by _ = pure None

-- one more edit, if there is one
unfoldable pub more_edit : Reader (Option WrittenEdit)
more_edit = λ ts. more_edit_by (next_kind ts) ts

-- edits, to the end of the tokens
unfoldable pub edits : Reader (List WrittenEdit)
edits = do
  xs ← chain_of push more_edit []
  at_end
  pure xs
