-- The parts of each rule, by its number, in the tables of a checked grammar.
use Rattle.std.proofs.Common.{◌≡◌, ℕ, ◌<◌, List, None, get_or, length, map, ap, subst, sym, ◌∙◌}
use Rattle.ftl_meaning.specs.faults.Checked.{CheckedGrammar, all_rules}
use Rattle.ftl_meaning.specs.faults.FirstFault.{first_fault}
use Rattle.ftl_deps.specs.reads.Meant.{meant}
use Rattle.ftl_deps.specs.parts.RuleParts.{all_parts, parts_meant, parts_named}
use Rattle.ftl_deps.specs.declared.parts.rule_parts.RuleParts.{RuleParts}
use Rattle.ftl_deps.proofs.reads.RuleNumbers.{rules_long}
use Rattle.ftl_step_value.specs.limits.reads.ReadTables.{rule_at}
use Rattle.ftl_step_value.proofs.limits.reads.RuleReads.{parts_at}

pub table_parts : (c : CheckedGrammar) → first_fault c.grammar ≡ None → (n : ℕ) (d : RuleParts)
    → {rows parts : List RuleParts} → rows ≡ parts → map parts_meant parts ≡ all_parts (meant c)
    → n < length (all_rules c.grammar)
    → (n < length rows) × (parts_meant (get_or rows n d) ≡ parts_named (meant c) (rule_at (meant c) n))
table_parts c none n d {rows} {parts} same are told =
    parts_at (meant c) rows n d (ap (map parts_meant) same ∙ are) (subst (λ m. n < m) (sym (rules_long c none)) told)
