-- The names by which faults name rules, by the rules' numbers.
use Rattle.std.specs.Prelude.{ℕ, List, [], map, slice_index_or, None}
use Rattle.ftl_grammar.specs.declared.syntax.rules.Grammar.{Grammar}
use Rattle.ftl_meaning.specs.declared.faults.rule_name.RuleName.{RuleName}
use Rattle.ftl_meaning.specs.faults.Checked.{all_rules}
use Rattle.ftl_meaning.specs.faults.FirstFault.{rule_name}
use Rattle.ftl_meaning.specs.faults.Numbering.{class_at}

-- what each rule defines, by name, as faults name it
abbrev pub rule_names : Grammar → List RuleName
rule_names g = map (λ r. rule_name (class_at g r.0) r.1.target) (all_rules g)

-- what the rule of this number defines; past the end one without names
abbrev pub rule_name_at : Grammar → (rule : ℕ) → RuleName
rule_name_at g r = slice_index_or (rule_names g) r (record { class = []; child = None; attr = [] })
