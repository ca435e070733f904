-- Edits as they are written: their inputs are names, and their nodes are any numbers.
use Rattle.std.specs.Prelude.{ℕ, ℤ, List}
use Rattle.ftl_edits.specs.declared.syntax.written.WrittenEdit.{WrittenEdit}

-- a name, by its bytes in UTF-8
abbrev pub NameText : Type 0
NameText = List ℕ

-- the edit that gives the input of this name of the node of this number this value
abbrev pub written_edit : (node : ℕ) → NameText → (value : ℤ) → WrittenEdit
written_edit node name value = record { node = node; name = name; value = value }
