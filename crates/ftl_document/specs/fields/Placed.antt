-- Where the fields of a node stand among the names of its class, and what is known once some were looked at.
use Rattle.std.specs.Prelude.{◌≡◌, ◌≢◌, ℕ, ◌+◌, ◌-◌, ◌<◌, nat_lt, Bool, if◌then◌else◌}
use Rattle.std.specs.Prelude.{List, length, map, Option, Some, None, Result, Ok, Err}
use Rattle.std.specs.List.{list_any}
use Rattle.ftl_document.specs.syntax.Written.{NameText}
use Rattle.ftl_meaning.specs.faults.Checked.{class_named}
use Rattle.ftl_meaning.specs.faults.Numbering.{interface_of}
use Rattle.ftl_meaning.specs.faults.FirstFault as grammars
use Rattle.ftl_meaning.specs.declared.faults.info.Field.TheVariants as field
use Rattle.ftl_grammar.specs.declared.syntax.rules.Grammar.{Grammar}
use Rattle.ftl_document.specs.faults.FirstFault.{has_form, input_names, is_of_later, needed_names, node_fault}
use Rattle.ftl_document.specs.faults.Nodes.{FieldForm, StandingNode}
use Rattle.ftl_document.specs.declared.faults.fault.DocFault.{DocFault}
use Rattle.ftl_document.specs.declared.faults.fault.DocFault.TheVariants as fault
use Rattle.ftl_document.specs.fields.OwnFields.{head_in, slot_of}
use Rattle.ftl_document.specs.declared.fields.own_field.OwnField.{OwnField}
use Rattle.ftl_document.specs.declared.fields.node_fields.KnownNode.{KnownNode}
use Rattle.ftl_document.specs.declared.fields.node_fields.Slots.{Slots}

-- success exactly where there is no fault, and else the fault, unless memory ran out
abbrev pub Finds : Option DocFault → Result (Unit {0}) DocFault → Type 0
Finds expected (Ok done) = expected ≡ None
Finds expected (Err e) = e ≢ fault.OutOfMemory → expected ≡ Some e

-- a node of which this interface is wanted, by the name of its class and its fields
abbrev pub node_in : (wanted : ℕ) → NameText → List OwnField → StandingNode
node_in wanted class fields = record { wanted = wanted; class = class; fields = map head_in fields }

-- the class of this number has this name and this interface
pub record IsClassOf (g : Grammar) (wanted : ℕ) (class : NameText) (k : ℕ) : Type 0 where
  pub known : k < length g.classes
  pub named : class_named g class ≡ Some k
  pub interface : interface_of g k ≡ wanted

-- a class of this name and interface, or else the fault of each node of a class of this name where this is wanted
abbrev pub FindsClass : Grammar → (node wanted : ℕ) → NameText → Result ℕ DocFault → Type 0
FindsClass g n wanted class (Ok k) = IsClassOf g wanted class k
FindsClass g n wanted class (Err e) =
    e ≢ fault.OutOfMemory → (fields : List OwnField) → node_fault g (n, node_in wanted class fields) ≡ Some e

-- whether what stands in a field has the form of the input or child at this place
abbrev pub place_has_form : Grammar → (class place : ℕ) → FieldForm → Bool
place_has_form g k i form =
    if nat_lt i (length (input_names g k)) then has_form g k (field.Input i) form
    else has_form g k (field.Child (i - length (input_names g k))) form

-- what is kept of a node's class is right
pub record IsKnown (n : KnownNode) : Type 0 where
  pub lawful : grammars.first_fault n.checked.now.grammar ≡ None
  pub known : n.class < length n.checked.now.grammar.classes
  pub names : n.table.now.names ≡ needed_names n.checked.now.grammar n.class
  pub inputs : n.table.now.inputs ≡ length (input_names n.checked.now.grammar n.class)

-- the slots hold what these fields put there: the first number of each name, and the last child that came
pub record ArePlaced (g : Grammar) (k : ℕ) (earlier : List OwnField) (s : Slots) : Type 0 where
  pub values : s.values.items ≡ map (slot_of earlier) (needed_names g k)
  pub latest : (c : ℕ) → list_any (is_of_later g k c) (map head_in earlier)
      ≡ nat_lt (length (input_names g k) + c) s.latest
