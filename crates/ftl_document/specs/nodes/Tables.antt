-- What is kept of each class while the nodes of a document are looked at.
use Rattle.std.specs.Prelude.{◌≡◌, ℕ, ◌<◌, ◌≤◌, List, length, get_or}
use Rattle.ftl_meaning.specs.faults.Numbering.{class_attributes}
use Rattle.ftl_grammar.specs.declared.syntax.rules.Grammar.{Grammar}
use Rattle.ftl_document.specs.faults.FirstFault.{input_names, needed_names}
use Rattle.ftl_document.specs.declared.nodes.class_tables.ClassTable.{ClassTable}

-- the table is that of the class of this number
pub record IsTableOf (g : Grammar) (k : ℕ) (t : ClassTable) : Type 0 where
  pub names : t.fields.names ≡ needed_names g k
  pub inputs : t.fields.inputs ≡ length (input_names g k)
  pub width : t.width ≡ length (class_attributes g k)
  pub few : t.width ≤ 128

-- each table is that of the class of its place
abbrev pub AreTables : Grammar → List ClassTable → Type 0
AreTables g ts = (k : ℕ) (other : ClassTable) → k < length ts → IsTableOf g k (get_or ts k other)
