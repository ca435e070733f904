-- The rows of reads, rule by rule.
use Rattle.std.proofs.Common.{◌≡◌, ℕ, ◌+◌, ◌<◌, [], ◌∷◌, ◌++◌, length, map, take, None, sym, ◌∙◌, ap}
use Rattle.ftl_grammar.specs.declared.syntax.rules.Rule.{Rule}
use Rattle.ftl_meaning.specs.faults.Checked.{CheckedGrammar, all_rules}
use Rattle.ftl_meaning.specs.faults.FirstFault.{first_fault}
use Rattle.ftl_meaning.specs.faults.RuleForms.{parts_of}
use Rattle.ftl_checked.specs.grammars.ReadNumbers.{rule_leaves_at, part_leaves}
use Rattle.ftl_order.specs.dependencies.DepReads.{dep_read, dep_table, rule_reads}
use Rattle.ftl_meaning.specs.grammars.GrammarOf.{name_of_rule}
use Rattle.ftl_base.specs.Widths.{greatest_of_width}
use Rattle.ftl_meaning.specs.lawful.Kept.{IsKept}
use Rattle.ftl_meaning.proofs.lawful.TextReads.{in_text_order}
use Rattle.ftl_deps.specs.reads.Meant.{deps_by_leaves, meant}
use Rattle.ftl_deps.proofs.reads.RuleRows as rows
use Rattle.ftl_deps.proofs.reads.WrittenDeps.{expressions_are}

module _ (c : CheckedGrammar) (none : first_fault c.grammar ≡ None) where
  -- what a rule reads, by what its names stand for
  by_leaves : (k n : ℕ) (r : Rule) (kept : IsKept c.grammar k n r)
      → rule_reads (meant c) (name_of_rule k kept.slot)
      ≡ deps_by_leaves (meant c) (map (part_leaves c.grammar k) (parts_of kept.form))
  by_leaves k n r kept =
      in_text_order c.grammar k (greatest_of_width c.width) n r kept
      ∙ ap (map (dep_read (meant c))) (sym (expressions_are c.grammar k (parts_of kept.form)))

  -- a row more
  pub rows_more : (n : ℕ) → n < length (all_rules c.grammar)
      → take (n + 1) (dep_table (meant c))
      ≡ take n (dep_table (meant c)) ++ deps_by_leaves (meant c) (rule_leaves_at c.grammar n) ∷ []
  rows_more n within =
      rows.rows_more c.grammar none (rule_reads (meant c)) (deps_by_leaves (meant c)) by_leaves n within

  -- all of them
  pub rows_all : take (length (all_rules c.grammar)) (dep_table (meant c)) ≡ dep_table (meant c)
  rows_all = rows.rows_all c.grammar none (rule_reads (meant c)) (deps_by_leaves (meant c)) by_leaves
