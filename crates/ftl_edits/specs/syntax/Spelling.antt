-- Which tokens spell which edits: a line of the syntax after the other.
use Rattle.std.specs.Prelude.{ℕ, ℤ, List, [], ◌∷◌, ◌++◌}
use Rattle.ftl_tokens.specs.declared.scanner.kind.Kind.TheVariants as kind
use Rattle.ftl_tokens.specs.scanner.Tokenized.{name, number, fixed}
use Rattle.ftl_tokens.specs.reading.Reader.{Tokens}
use Rattle.ftl_document.specs.syntax.Spelling.{SpellsNumber}
use Rattle.ftl_edits.specs.declared.syntax.written.WrittenEdit.{WrittenEdit}
use Rattle.ftl_edits.specs.syntax.Written.{NameText, written_edit}

-- NUMBER "." NAME "=" [ "-" ] NUMBER ";"
pub data SpellsEdit : Tokens → WrittenEdit → Type 0 where
  edit_of : {node : ℕ} {x : NameText} {a : Tokens} {n : ℤ} → SpellsNumber a n
      → SpellsEdit (number node ∷ fixed kind.Dot ∷ name x ∷ fixed kind.Equals ∷ (a ++ (fixed kind.Semicolon ∷ [])))
      (written_edit node x n)

-- edits = { NUMBER "." NAME "=" [ "-" ] NUMBER ";" }
pub data SpellsEdits : Tokens → List WrittenEdit → Type 0 where
  no_edits : SpellsEdits [] []
  more_edits : {a b : Tokens} {x : WrittenEdit} {xs : List WrittenEdit} → SpellsEdit a x → SpellsEdits b xs
      → SpellsEdits (a ++ b) (x ∷ xs)
