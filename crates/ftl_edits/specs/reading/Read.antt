-- What the reader of edits answers: the edits that the tokens stand for at a tree, or the first fault.
use Rattle.std.specs.Prelude.{◌≡◌, List, Result, Err}
use Rattle.ftl_tokens.specs.scanner.Tokenized.{WideTokenized, symbols_of}
use Rattle.ftl_tree.specs.trees.CheckedTree.{CheckedTree}
use Rattle.ftl_edits.specs.declared.syntax.written.WrittenEdit.{WrittenEdit}
use Rattle.ftl_edits.specs.syntax.Spelling.{SpellsEdits}
use Rattle.ftl_edits.specs.syntax.Read.{IsNoEdits}
use Rattle.ftl_edits.specs.declared.meaning.types.Edit.{Edit}
use Rattle.ftl_edits.specs.declared.meaning.fault.EditFault.{EditFault}
use Rattle.ftl_edits.specs.declared.meaning.fault.EditFault.TheVariants as fault
use Rattle.ftl_edits.specs.meaning.Meaning.{edits_of}

-- the tokens spell edits, and the answer is what they stand for at the tree, or their first fault
pub record AreRead (t : CheckedTree) (scanned : WideTokenized) (answer : Result (List Edit) EditFault) : Type 0 where
  pub written : List WrittenEdit
  pub spells : SpellsEdits (symbols_of scanned.tokenized) written
  pub is : answer ≡ edits_of t written

-- the edits are those that the tokens stand for, and a fault is the first: of the text, then of the edits
abbrev pub ReadsEdits : CheckedTree → WideTokenized → Result (List Edit) EditFault → Type 0
ReadsEdits t scanned (Err (fault.Syntax at)) = IsNoEdits scanned.tokenized at
ReadsEdits t scanned (Err fault.OutOfMemory) = Unit {0}
ReadsEdits t scanned answer = AreRead t scanned answer
