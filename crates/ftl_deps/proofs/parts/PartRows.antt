-- The parts of rules, rule by rule.
use Rattle.std.proofs.Common.{◌≡◌, ℕ, ◌+◌, ◌<◌, [], ◌∷◌, ◌++◌, length, map, take, None, sym, ◌∙◌, ap, ap₂}
use Rattle.ftl_base.specs.Widths.{greatest_of_width}
use Rattle.ftl_model.specs.layout.AttributeGrammar as model
use Rattle.ftl_grammar.specs.declared.syntax.rules.Grammar.{Grammar}
use Rattle.ftl_grammar.specs.declared.syntax.rules.Rule.{Rule}
use Rattle.ftl_meaning.specs.formulas.Expressions.{formula_of}
use Rattle.ftl_meaning.specs.formulas.Formula.{reads_of}
use Rattle.ftl_meaning.specs.faults.Allowed.{for_kids, for_later, for_self, in_step}
use Rattle.ftl_meaning.specs.faults.Checked.{CheckedGrammar, all_rules}
use Rattle.ftl_meaning.specs.faults.FirstFault.{first_fault}
use Rattle.ftl_meaning.specs.faults.RuleForms.{Form, first_form, fold_form, one_form, parts_of}
use Rattle.ftl_checked.specs.grammars.ReadNumbers.{rule_leaves_at, part_leaves}
use Rattle.ftl_meaning.specs.grammars.GrammarOf.{name_of_rule}
use Rattle.ftl_meaning.specs.grammars.Meaning.{form_parts}
use Rattle.ftl_meaning.specs.lawful.Kept.{IsKept}
use Rattle.ftl_deps.specs.reads.Meant.{meant}
use Rattle.ftl_deps.proofs.reads.RuleRows as rows
use Rattle.ftl_deps.proofs.reads.WrittenDeps.{names_are}
use Rattle.ftl_deps.specs.parts.RuleParts.{all_parts, parts_by_leaves, parts_named}

-- the parts of a form, by what its expressions read
form_is : (g : Grammar) (k : ℕ) (form : Form) → parts_by_leaves (map (part_leaves g k) (parts_of form)) ≡ form_parts g k form
form_is g k (one_form at e) = ap model.plain (names_are g k at (reads_of (formula_of e)))
form_is g k (first_form c e f) =
    ap₂ model.first_then (names_are g k (for_kids c) (reads_of (formula_of e)))
    (names_are g k (for_later c) (reads_of (formula_of f)))
form_is g k (fold_form c e f) =
    ap₂ (model.fold_over c) (names_are g k for_self (reads_of (formula_of e)))
    (names_are g k (in_step c) (reads_of (formula_of f)))

module _ (c : CheckedGrammar) (none : first_fault c.grammar ≡ None) where
  -- the parts of a rule, by what its names stand for
  by_leaves : (k n : ℕ) (r : Rule) (kept : IsKept c.grammar k n r)
      → parts_named (meant c) (name_of_rule k kept.slot)
      ≡ parts_by_leaves (map (part_leaves c.grammar k) (parts_of kept.form))
  by_leaves k n r kept =
      ap (λ (rule : model.Rule). rule.parts) (kept.means (greatest_of_width c.width))
      ∙ sym (form_is c.grammar k kept.form)

  -- a row more
  pub rows_more : (n : ℕ) → n < length (all_rules c.grammar)
      → take (n + 1) (all_parts (meant c))
      ≡ take n (all_parts (meant c)) ++ parts_by_leaves (rule_leaves_at c.grammar n) ∷ []
  rows_more n within = rows.rows_more c.grammar none (parts_named (meant c)) parts_by_leaves by_leaves n within

  -- all of them
  pub rows_all : take (length (all_rules c.grammar)) (all_parts (meant c)) ≡ all_parts (meant c)
  rows_all = rows.rows_all c.grammar none (parts_named (meant c)) parts_by_leaves by_leaves
