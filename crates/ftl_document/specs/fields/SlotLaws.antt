-- What the slots of a node without a fault hold, and its fields as they are written.
use Rattle.std.specs.Prelude.{◌≡◌, ℕ, ◌<◌, [], length, map, Some, None}
use Rattle.ftl_grammar.specs.declared.syntax.rules.Grammar.{Grammar}
use Rattle.ftl_meaning.specs.faults.FirstFault as grammars
use Rattle.ftl_document.specs.syntax.Written.{WrittenFields}
use Rattle.ftl_document.specs.faults.DocumentTree.{inputs_in}
use Rattle.ftl_document.specs.faults.FirstFault.{field_faults, first_there, input_names, missing_fault}
use Rattle.ftl_document.specs.faults.Nodes.{field_heads}
use Rattle.ftl_document.specs.fields.OwnFields.{head_in, own_of, slot_of}

-- the fields of a node in code have the names and forms of those that are written
abbrev pub KeepsHeads : Type 0
KeepsHeads = (fields : WrittenFields) → map head_in (own_of fields) ≡ field_heads fields

-- the slots of the inputs hold the inputs of the node's tree, where the fields have no fault and none is missing
abbrev pub HoldsInputs : Type 0
HoldsInputs =
    (g : Grammar) (n k : ℕ) (fields : WrittenFields) → grammars.first_fault g ≡ None → k < length g.classes
    → first_there (field_faults g n k [] (field_heads fields)) ≡ None
    → missing_fault g n k (field_heads fields) ≡ None
    → map (slot_of (own_of fields)) (input_names g k) ≡ map Some (inputs_in g k fields)
