-- Which faults written edits can have.
use Rattle.std.proofs.Common.{ℕ, ◌+◌, nat_lt, Bool, true, false, cond, List, [], ◌∷◌, length, map, Option, Some, None}
use Rattle.std.proofs.Common.{Result, Ok, Err}
use Rattle.ftl_model.specs.layout.Tree.{size}
use Rattle.std.specs.Option.{option_or}
use Rattle.ftl_tree.specs.trees.CheckedTree.{CheckedTree}
use Rattle.ftl_edits.specs.declared.syntax.written.WrittenEdit.{WrittenEdit}
use Rattle.ftl_edits.specs.declared.meaning.types.Edit.{Edit}
use Rattle.ftl_edits.specs.declared.meaning.fault.EditFault.{EditFault}
use Rattle.ftl_edits.specs.declared.meaning.fault.EditFault.TheVariants as fault
use Rattle.ftl_edits.specs.meaning.Meaning.{edit_fault, edit_of, edits_by, edits_of, first_faulty, input_fault}
use Rattle.ftl_edits.specs.meaning.Meaning.{input_of}
use Rattle.ftl_edits.specs.meaning.Meaning.{most_edits}

-- a fault of edits that are spelled
abbrev pub IsOfEdits : EditFault → Type 0
IsOfEdits (fault.Syntax at) = ⊥
IsOfEdits (fault.TooMany count) = Unit {0}
IsOfEdits (fault.UnknownNode edit) = Unit {0}
IsOfEdits (fault.UnknownInput edit) = Unit {0}
IsOfEdits fault.OutOfMemory = ⊥

-- a fault, if there is one, is such a fault
abbrev IfFault : Option EditFault → Type 0
IfFault (Some x) = IsOfEdits x
IfFault None = Unit {0}

of_input : (n : ℕ) (a : Option ℕ) → IfFault (input_fault n a)
of_input n (Some a) = tt
of_input n None = tt

by_node : (b : Bool) (n : ℕ) (o : Option EditFault) → IfFault o → IfFault (cond b o (Some (fault.UnknownNode n)))
by_node true n o h = h
by_node false n o h = tt

of_edit : (t : CheckedTree) (n : ℕ) (e : WrittenEdit) → IfFault (edit_fault t n e)
of_edit t n e = by_node (nat_lt e.node (size t.tree)) n (input_fault n (input_of t e)) (of_input n (input_of t e))

either : (o r : Option EditFault) → IfFault o → IfFault r → IfFault (option_or o r)
either (Some x) r h k = h
either None r h k = k

of_first : (t : CheckedTree) (n : ℕ) (written : List WrittenEdit) → IfFault (first_faulty t n written)
of_first t n [] = tt
of_first t n (e ∷ written) =
    either (edit_fault t n e) (first_faulty t (n + 1) written) (of_edit t n e) (of_first t (n + 1) written)

-- an error, if the result is one, is such a fault
abbrev pub IfErr : Result (List Edit) EditFault → Type 0
IfErr (Ok edits) = Unit {0}
IfErr (Err x) = IsOfEdits x

by_fault : (o : Option EditFault) (edits : List Edit) → IfFault o → IfErr (edits_by o edits)
by_fault (Some x) edits h = h
by_fault None edits h = tt

by_count : (b : Bool) (count : ℕ) (r : Result (List Edit) EditFault) → IfErr r
    → IfErr (cond b (Err (fault.TooMany count)) r)
by_count true count r h = tt
by_count false count r h = h

pub of_edits : (t : CheckedTree) (written : List WrittenEdit) → IfErr (edits_of t written)
of_edits t written =
    by_count (nat_lt most_edits (length written)) (length written)
    (edits_by (first_faulty t 1 written) (map (edit_of t) written))
    (by_fault (first_faulty t 1 written) (map (edit_of t) written) (of_first t 1 written))
