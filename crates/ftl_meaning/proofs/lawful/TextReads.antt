-- The reads of the parts of a form are those of its expressions, in the order of the text.
use Rattle.std.proofs.Common.{◌≡◌, ℕ, sym, ap, ◌∙◌, List, map, ◌++◌}
use Rattle.std.proofs.lemmas.List.{append-nil}
use Rattle.ftl_model.specs.layout.AttributeGrammar.{Read, Rule}
use Rattle.ftl_grammar.specs.declared.syntax.rules.Grammar.{Grammar}
use Rattle.ftl_grammar.specs.declared.syntax.rules.Rule as written
use Rattle.ftl_meaning.specs.faults.Allowed.{for_kids, for_later, for_self, in_step}
use Rattle.ftl_meaning.specs.faults.RuleForms.{Form, first_form, fold_form, one_form}
use Rattle.ftl_order.specs.dependencies.DepReads.{dep_read, reads_of_parts, rule_reads}
use Rattle.ftl_meaning.specs.grammars.GrammarOf.{grammar_of, name_of_rule}
use Rattle.ftl_meaning.specs.grammars.Meaning.{expression_reads, form_parts}
use Rattle.ftl_meaning.specs.lawful.Kept.{IsKept}
use Rattle.ftl_meaning.specs.lawful.TextOrder.{text_reads}

module _ (g : Grammar) (k : ℕ) where
  -- of each form
  form_reads : (form : Form) → reads_of_parts (form_parts g k form) ≡ text_reads g k form
  form_reads (one_form at e) = sym (append-nil (expression_reads g k at e))
  form_reads (first_form c e f) =
      ap (λ (rs : List Read). expression_reads g k (for_kids c) e ++ rs) (sym (append-nil (expression_reads g k (for_later c) f)))
  form_reads (fold_form c e f) =
      ap (λ (rs : List Read). expression_reads g k for_self e ++ rs) (sym (append-nil (expression_reads g k (in_step c) f)))

  -- of each rule that is kept
  pub in_text_order : (greatest n : ℕ) (r : written.Rule) (kept : IsKept g k n r)
      → rule_reads (grammar_of greatest g) (name_of_rule k kept.slot)
      ≡ map (dep_read (grammar_of greatest g)) (text_reads g k kept.form)
  in_text_order greatest n r kept =
      ap (λ (x : Rule). map (dep_read (grammar_of greatest g)) (reads_of_parts x.parts)) (kept.means greatest)
      ∙ ap (map (dep_read (grammar_of greatest g))) (form_reads kept.form)
