-- What written edits stand for at a tree, and their first fault.
use Rattle.std.specs.Prelude.{◌≡◌, ◌≢◌, ◌+◌, ℕ, nat_lt, if◌then◌else◌, List, [], ◌∷◌, length, map, unwrap_or}
use Rattle.std.specs.Prelude.{Option, Some, None, Result, Ok, Err}
use Rattle.std.specs.Option.{option_and_then, option_or}
use Rattle.ftl_model.specs.layout.Path.{class_at, node_at}
use Rattle.ftl_model.specs.layout.Tree.{size}
use Rattle.ftl_grammar.specs.declared.syntax.rules.Grammar.{Grammar}
use Rattle.ftl_meaning.specs.faults.Checked.{is_input, number_if}
use Rattle.ftl_meaning.specs.declared.faults.info.Field.{Field}
use Rattle.ftl_meaning.specs.declared.faults.info.Field.TheVariants as field
use Rattle.ftl_meaning.specs.faults.Numbering.{class_attributes, find_attribute}
use Rattle.ftl_tree.specs.trees.CheckedTree.{CheckedTree}
use Rattle.ftl_edits.specs.declared.syntax.written.WrittenEdit.{WrittenEdit}
use Rattle.ftl_edits.specs.syntax.Written.{NameText}
use Rattle.ftl_edits.specs.declared.meaning.types.Edit.{Edit}
use Rattle.ftl_edits.specs.declared.meaning.fault.EditFault.{EditFault}
use Rattle.ftl_edits.specs.declared.meaning.fault.EditFault.TheVariants.{TooMany, UnknownNode, UnknownInput}
use Rattle.ftl_edits.specs.declared.meaning.fault.EditFault.TheVariants.{OutOfMemory}

-- how many edits a text may have
abbrev pub most_edits : ℕ
most_edits = 1048576

-- ---- one edit

-- the input of this name that the nodes of a class have, by their interface or by the class itself
abbrev pub input_named : Grammar → (class : ℕ) → NameText → Option ℕ
input_named g k name = option_and_then (number_if is_input) (find_attribute name (class_attributes g k))

-- the input that an edit names, where its node is one of the tree
abbrev pub input_of : CheckedTree → WrittenEdit → Option ℕ
input_of t e = input_named t.checked.grammar (class_at t.tree (node_at t.tree e.node)) e.name

-- the fault of an edit of this number, by the input that it names
abbrev pub input_fault : (edit : ℕ) → Option ℕ → Option EditFault
input_fault n (Some a) = None
input_fault n None = Some (UnknownInput n)

-- the fault of an edit of this number: it names no node of the tree, or else no input of its node
abbrev pub edit_fault : CheckedTree → (edit : ℕ) → WrittenEdit → Option EditFault
edit_fault t n e = if nat_lt e.node (size t.tree) then input_fault n (input_of t e) else Some (UnknownNode n)

-- the edit that one without a fault stands for
abbrev pub edit_of : CheckedTree → WrittenEdit → Edit
edit_of t e = record { node = e.node; attr = unwrap_or (input_of t e) 0; value = e.value }

-- ---- all

-- the fault of the first that is faulty, where they are numbered from this number on
abbrev pub first_faulty : CheckedTree → (edit : ℕ) → List WrittenEdit → Option EditFault
first_faulty t n [] = None
first_faulty t n (e ∷ edits) = option_or (edit_fault t n e) (first_faulty t (n + 1) edits)

-- the fault, or else the edits
abbrev pub edits_by : Option EditFault → List Edit → Result (List Edit) EditFault
edits_by (Some x) edits = Err x
edits_by None edits = Ok edits

-- too many, or else the first that is faulty, counted from 1, or else the edits that they stand for, in their order
abbrev pub edits_of : CheckedTree → List WrittenEdit → Result (List Edit) EditFault
edits_of t written =
    if nat_lt most_edits (length written) then Err (TooMany (length written))
    else edits_by (first_faulty t 1 written) (map (edit_of t) written)

-- ---- what functions that find edits ensure

-- the number of a field that is an input
abbrev pub input_in : Option Field → Option ℕ
input_in (Some (field.Input a)) = Some a
input_in (Some (field.Child c)) = None
input_in None = None

-- the edit that this one stands for, or its fault
abbrev pub FindsEdit : CheckedTree → (edit : ℕ) → WrittenEdit → Result Edit EditFault → Type 0
FindsEdit t n e (Ok x) = (edit_fault t n e ≡ None) × (x ≡ edit_of t e)
FindsEdit t n e (Err x) = edit_fault t n e ≡ Some x

-- the edits that these stand for, or the fault of the first that is faulty, unless memory ran out
abbrev pub FindsEdits : CheckedTree → List WrittenEdit → Result (List Edit) EditFault → Type 0
FindsEdits t written (Ok edits) = (first_faulty t 1 written ≡ None) × (edits ≡ map (edit_of t) written)
FindsEdits t written (Err x) = x ≢ OutOfMemory → first_faulty t 1 written ≡ Some x
