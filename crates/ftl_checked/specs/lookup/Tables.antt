-- The tables that stand beside a grammar, by what they hold.
use Rattle.std.specs.Prelude.{ℕ, ◌+◌, ◌++◌, map, take}
use Rattle.ftl_grammar.specs.declared.syntax.rules.Class.{Class}
use Rattle.ftl_grammar.specs.declared.syntax.rules.Grammar.{Grammar}
use Rattle.ftl_grammar.specs.declared.syntax.rules.Interface.{Interface}
use Rattle.ftl_checked.specs.declared.lookup.tables.InterfaceTable.{InterfaceTable}
use Rattle.ftl_checked.specs.declared.lookup.tables.ClassTable.{ClassTable}
use Rattle.ftl_checked.specs.declared.lookup.tables.Tables.{Tables}
use Rattle.ftl_meaning.specs.faults.Numbering.{class_names, interface_names, interface_number, numbered, own_count}
use Rattle.ftl_meaning.specs.faults.Numbering.{shared_count}
use Rattle.ftl_meaning.specs.faults.FirstFault.{attribute_names}
use Rattle.ftl_meaning.specs.faults.Checked.{child_info}

-- what is kept of an interface: the number of its first attribute, and their names
abbrev pub interface_table : (start : ℕ) → Interface → InterfaceTable
interface_table start x = record { start = start; names = attribute_names x.attrs }

-- the same of the interface of this number
abbrev pub interface_entry : Grammar → ℕ × Interface → InterfaceTable
interface_entry g x = interface_table (shared_count (take x.0 g.interfaces)) x.1

-- what is kept of a class: its interface, the number of its first own attribute, and its names
abbrev pub class_table : Grammar → (start : ℕ) → Class → ClassTable
class_table g start x = record {
  interface = interface_number g x.interface;
  start = start;
  own = attribute_names x.attrs;
  child_names = map (λ c. c.name) x.children;
  children = map (child_info g) x.children;
}

-- the same of the class of this number
abbrev pub class_entry : Grammar → ℕ × Class → ClassTable
class_entry g k = class_table g (shared_count g.interfaces + own_count (take k.0 g.classes)) k.1

-- all that is kept
abbrev pub tables_of : Grammar → Tables
tables_of g = record {
  names = interface_names g ++ class_names g;
  class_names = class_names g;
  interfaces = map (interface_entry g) (numbered 0 g.interfaces);
  classes = map (class_entry g) (numbered 0 g.classes);
}
