-- The line that refuses a grammar for what may depend on itself.
use Rattle.std.specs.Prelude.{ℕ, List, [], ◌++◌, codes, Option}
use Rattle.std.specs.Option.{option_map}
use Rattle.ftl_grammar.specs.declared.syntax.rules.Grammar.{Grammar}
use Rattle.ftl_meaning.specs.faults.Checked.{attribute_at}
use Rattle.ftl_meaning.specs.faults.Numbering.{child_at, class_at}
use Rattle.ftl_meaning.specs.declared.faults.rule_name.RuleName.{RuleName}
use Rattle.ftl_noncircular.specs.declared.search.fault.CircularFault.{CircularFault}
use Rattle.ftl_noncircular.specs.declared.search.fault.CircularFault.TheVariants as fault
use Rattle.ftl_answer.specs.refusals.Names.{rule_text}

-- an attribute of the node, or of the kids in a child, as a rule for it is named
abbrev pub vertex_name : Grammar → (class : ℕ) → (child : Option ℕ) → (attribute : ℕ) → RuleName
vertex_name g k child a = record {
  class = (class_at g k).name;
  child = option_map (λ c. (child_at g k c).name) child;
  attr = (attribute_at g a).decl.name;
}

-- the first circular vertex of a grammar
abbrev pub circular_line : Grammar → CircularFault → List ℕ
circular_line g (fault.Circular class child attribute) =
    codes "refused grammar: " ++ (rule_text (vertex_name g class child attribute) ++ codes " may depend on itself")
circular_line g fault.OutOfMemory = []
