-- What is kept of a grammar beside it.
use Rattle.std.specs.Prelude.{◌≡◌, ℕ, List}
use Rattle.ftl_deps.specs.reads.Meant.{meant}
use Rattle.ftl_meaning.specs.faults.Checked.{CheckedGrammar}
use Rattle.ftl_model.specs.layout.AttributeGrammar.{attributes_of}
use Rattle.ftl_step_value.specs.value.StepValue.{IsCodeFor}
use Rattle.ftl_tree.specs.boxes.Shows.{shown_rows}
use Rattle.ftl_visit.specs.compiled.RuleCode.{Compiled}
use Rattle.ftl_visit.specs.rule_tables.RuleTables.{by_number}

-- the code of its rules, the attributes of each class, and those that each interface shows
pub record IsKept (c : CheckedGrammar) (p : Compiled) (by_class by_interface : List (List ℕ)) : Type 0 where
  pub code : IsCodeFor c p
  pub attributes : by_class ≡ by_number (attributes_of (meant c)) (meant c).class_count
  pub shown : by_interface ≡ shown_rows c.grammar
