-- What the slots of a node hold once all its fields were looked at.
use Rattle.std.specs.Prelude.{◌≡◌, ℕ, ◌≤◌, ℤ, pos, length, map, take, Option, Some}
use Rattle.std.specs.Option.{unwrap_or}
use Rattle.ftl_grammar.specs.declared.syntax.rules.Grammar.{Grammar}
use Rattle.ftl_document.specs.syntax.Written.{WrittenFields}
use Rattle.ftl_document.specs.faults.DocumentTree.{inputs_in}
use Rattle.ftl_document.specs.faults.FirstFault.{input_names}
use Rattle.ftl_document.specs.declared.fields.node_fields.Slots.{Slots}

-- the first slots hold the inputs of a node of this class with these fields
pub record AreFilled (g : Grammar) (k : ℕ) (fields : WrittenFields) (s : Slots) : Type 0 where
  pub room : length (input_names g k) ≤ length s.values.items
  pub inputs : take (length (input_names g k)) s.values.items ≡ map Some (inputs_in g k fields)

-- the number of a slot; 0 of an empty one
abbrev pub input_in : Option ℤ → ℤ
input_in slot = unwrap_or slot (pos 0)
